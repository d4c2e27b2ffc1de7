-- C-19: what it means that a record of the frame table agrees with the registers question. That each record does: proofs/Agrees.antt.
-- Assumes nothing.
use Rattle.std.specs.Prelude.{◌≡◌, ◌⊎◌, ℕ}
use Rattle.refusals.specs.Refusal.{not_found}
use Rattle.fields.specs.Answer.{Answer, accepted, refused}
use Rattle.gdb_table.specs.declared.FrameRecord.{FrameRecord}

-- the record r says of its frame's registers what the answer x says
pub record Agrees (x : Answer (ℕ × ℕ)) (r : FrameRecord) : Type 0 where
  pub yes : (p k : ℕ) → x ≡ accepted (p, k) → (r.has_registers ≡ 1) × (r.registers_place ≡ p)
  pub no : x ≡ refused not_found → (r.has_registers ≡ 0) × (r.registers_place ≡ 0)
  pub yes-only : r.has_registers ≡ 1 → (k : ℕ) × (x ≡ accepted (r.registers_place, k))
  pub no-only : r.has_registers ≡ 0 → x ≡ refused not_found
  pub either : (r.has_registers ≡ 1) ⊎ (r.has_registers ≡ 0)
