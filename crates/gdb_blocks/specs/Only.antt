-- C-20: a frame has at most one register block, so the one that the registers question shows is the only one.
-- Assumes nothing.
use Rattle.std.specs.Prelude.{◌≡◌, ℕ, true, List, length, refl}
use Rattle.std.proofs.Common.{sym, ap, ◌∙◌}
use Rattle.std.proofs.Math.Option.{some, some-injective}
use Rattle.fields.specs.Lists.{clash}
use Rattle.fields.specs.Number.{Bytes}
use Rattle.fields.specs.Answer.{accepted, accepted-one}
use Rattle.fields.specs.Element.{nth, only_one}
use Rattle.gdb_format.specs.Trace.{Block, registers, memory, variable, is_registers}
use Rattle.gdb_format.specs.declared.Settings.{Settings}
use Rattle.gdb_blocks.specs.Earliest.{earliest-nth}
use Rattle.gdb_blocks.specs.Held.{registers_of}
use Rattle.gdb_blocks.specs.Shown.{BytesShown, shown_fits}

holds-registers : (x : Block) (d : List ℕ) → registers_of x ≡ some d → is_registers x ≡ true
holds-registers (registers c) d e = refl
holds-registers (memory a c) d e = clash (cc)
holds-registers (variable n v) d e = clash (cc)

-- each register block of the frame stands where the one that is shown does, and holds its bytes
pub registers-only : {s : Settings} {b : List ℕ} {n p k : ℕ} → Bytes b → (q : BytesShown s b n registers_of p k)
    → (j : ℕ) (d : List ℕ) → nth q.frame.blocks j ≡ accepted (registers d) → (j ≡ length q.is-earliest.before) × (d ≡ q.bytes)
registers-only h q j d e =
    let l = q.is-earliest in
    let first = earliest-nth registers_of q.frame.blocks q.bytes l in
    let same : j ≡ length l.before =
    only_one is_registers q.frame.blocks j (length l.before) (registers d) l.element (shown_fits h q).4 e first refl
    (holds-registers l.element q.bytes l.finds) in
    let block : registers d ≡ l.element = accepted-one (sym e ∙ ap (nth q.frame.blocks) same ∙ first) in
    (same, some-injective _ _ (ap registers_of block ∙ l.finds))
