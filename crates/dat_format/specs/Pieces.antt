-- Readers of a header's pieces: fixed strings, tested values, sized data, names, and as many elements as a count says; and how each is laid out.
-- Assumes nothing: these are definitions.
use Rattle.std.specs.Prelude.{Bool, cond, ℕ, zero, suc, List, [], ◌∷◌, ◌++◌, length, eqb}
use Rattle.refusals.specs.Refusal.{field_past_file, bad_constant}
use Rattle.fields.specs.Lists.{concat_map}
use Rattle.fields.specs.Number.{field}
use Rattle.fields.specs.Word.{starts}
use Rattle.fields.specs.Answer.{Answer, accepted, refused, next}
use Rattle.fields.specs.Reader.{Reader, ◌>>=◌, give, refuse, bytes, num}
use Rattle.fields.specs.declared.Order.{Order}

-- what p reads, where the test holds of it; k where not
abbrev pub such : {A : Type 0} → Reader A → (A → Bool) → ℕ → Reader A
such p t k = do
  a ← p
  cond (t a) (give a) (refuse k)

-- a fixed string cut short is 14; one wholly present and wrong is 15
abbrev pub fixed : List ℕ → Reader (List ℕ)
fixed w = such (bytes (length w) field_past_file) (starts w) bad_constant

-- a fixed string and then p
abbrev pub after : {A : Type 0} → List ℕ → Reader A → Reader A
after w p = do
  u ← fixed w
  p

-- n elements, one after another
abbrev pub times : {A : Type 0} → ℕ → Reader A → Reader (List A)
times zero p = give []
times (suc n) p = do
  a ← p
  l ← times n p
  give (a ∷ l)

-- a size of w bytes, and that many bytes
abbrev pub sized : Order → ℕ → Reader (List ℕ)
sized o w = do
  n ← num o w field_past_file
  bytes n field_past_file

abbrev pub put_sized : Order → ℕ → List ℕ → List ℕ
put_sized o w d = field o w (length d) ++ d

-- a count of 4 bytes, and that many elements
abbrev pub counted : {A : Type 0} → Order → Reader A → Reader (List A)
counted o p = do
  n ← num o 4 field_past_file
  times n p

abbrev pub put_counted : {A : Type 0} → Order → (A → List ℕ) → List A → List ℕ
put_counted o put l = field o 4 (length l) ++ concat_map put l

-- the bytes up to a NUL, which ends the name
abbrev pub name : Reader (List ℕ)
name [] = refused field_past_file
name (x ∷ xs) =
    let more : Answer (List ℕ × List ℕ) = next (name xs) (λ r. accepted (x ∷ r.0, r.1)) in
    cond (eqb x 0) (accepted ([], xs)) more

abbrev pub put_name : List ℕ → List ℕ
put_name n = n ++ 0 ∷ []
