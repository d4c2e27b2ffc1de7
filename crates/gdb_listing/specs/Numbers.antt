-- Which numbers a listing can show as a refusal, and which it can refuse with itself.
-- Assumes nothing.
use Rattle.std.specs.Prelude.{List, [], ◌∷◌, ℕ, length, ltb}
use Rattle.refusals.specs.Refusal.{no_room}
use Rattle.fields.specs.Output.{answer}
use Rattle.fields.specs.Refuses.{Refuses, OneOf, refuses_never, refuses_with, refuses_cond, refuses_next, refuses_answer}
use Rattle.fields.specs.declared.Order.TheVariants.{Little}
use Rattle.gdb_format.specs.Trace.{Trace}
use Rattle.gdb_format.specs.Decode.{read}
use Rattle.gdb_format.specs.Numbers.{decode_numbers, decode-numbers}
use Rattle.gdb_format.specs.declared.Base.TheVariants.{Sixteen}
use Rattle.gdb_format.specs.declared.Format.{Format}
use Rattle.gdb_frames.specs.Questions.{table}
use Rattle.gdb_listing.specs.Text.{listing_limit, listed, listing_of}

-- 1 and 3 to 10 are shown: the listing's own settings are never wrong
pub listed-numbers : (b : List ℕ) → Refuses (OneOf decode_numbers) (listed b)
unfolding listed read
listed-numbers b =
    let f : Format = record { order = Little; base = Sixteen } in
    refuses_cond (ltb listing_limit (length b)) (refuses_with tt)
    (refuses_next {A = Format × Trace} (refuses_next {A = Trace} (decode-numbers f b) (λ t. refuses_never {a = (f, t)}))
    (λ r. refuses_never {a = table r.0 r.1}))

-- 11 alone is answered
pub listing_numbers : (b out : List ℕ) → Refuses (OneOf (no_room ∷ [])) (answer (listing_of b) out)
listing_numbers b out = refuses_answer {x = listing_of b} out tt refuses_never
