-- Two traces that can be joined, as they were read.
-- Assumes nothing: these are definitions.
use Rattle.std.specs.Prelude.{ℕ, List, Result}
use Rattle.refusals.specs.declared.Refusal.{Refusal}
use Rattle.fields.specs.Answer.{Answer, accepted, next}
use Rattle.fields.specs.Meaning.{answer_by}
use Rattle.gdb_format.specs.Decode.{read}
use Rattle.gdb_format.specs.declared.Settings.{Settings}
use Rattle.gdb_read.specs.Steps.{Summary, summary_of, opened_meaning}
use Rattle.gdb_join.specs.Join.{join_of}
use Rattle.gdb_join.specs.declared.Pair.{Pair}

-- the join's refusal, or what each reading tells
abbrev pub pair_seen : Settings → List ℕ → List ℕ → Answer (Summary × Summary)
pair_seen s a b =
    next (join_of s a b) (λ c. next (read s a) (λ p. next (read s b) (λ q. accepted (summary_of p.0 p.1, summary_of q.0 q.1))))

-- what `Pair` says
abbrev pub pair_meaning : Result Pair Refusal → Answer (Summary × Summary)
pair_meaning r = answer_by (λ p. (opened_meaning p.first, opened_meaning p.second)) r
