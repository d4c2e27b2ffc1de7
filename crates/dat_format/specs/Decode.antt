-- Reading a trace.dat header front to back: each rule with its refusal; the first fault met decides.
-- Assumes nothing: these are definitions.
use Rattle.std.specs.Prelude.{Bool, cond, ◌||◌, ℕ, zero, suc, List, [], ◌∷◌, length, leb, eqb}
use Rattle.std.proofs.Math.Option.{none, some}
use Rattle.refusals.specs.Refusal.{limit, too_long, field_past_file, bad_constant, bad_range, ranges_overlap}
use Rattle.fields.specs.Word.{starts}
use Rattle.fields.specs.Answer.{Answer, accepted, refused, next}
use Rattle.fields.specs.Reader.{Reader, ◌>>=◌, give, refuse, bytes, num}
use Rattle.fields.specs.declared.Order.{Order}
use Rattle.fields.specs.declared.Order.TheVariants.{Little, Big}
use Rattle.dat_format.specs.Pieces.{such, after, times, sized, counted, name}
use Rattle.dat_format.specs.Header.{Opening, System, Sections, Texts, Opt, Range, Ending, latency, flyrecord, Tail, Header, encode}
use Rattle.dat_format.specs.Header.{magic, tracing, version, page_word, event_word, Word, options_word, latency_word, fly_word, put_word}
use Rattle.dat_format.specs.Layout.{most_cpus, ranges}
use Rattle.dat_format.specs.Tests.{is_long, is_page, in_file, all, all_apart}

abbrev pub order_in : ℕ → Reader Order
order_in zero = give Little
order_in (suc zero) = give Big
order_in (suc (suc n)) = refuse bad_constant

unfoldable pub sizes : Order → Reader Opening
sizes o = do
  l ← such (num Little 1 field_past_file) is_long bad_constant
  p ← such (num o 4 field_past_file) is_page bad_constant
  give (record { order = o; long = l; page = p })

unfoldable pub flags : Reader Opening
flags = do
  n ← num Little 1 field_past_file
  o ← order_in n
  sizes o

unfoldable pub opening : Reader Opening
opening = after magic (after tracing (after version flags))

unfoldable pub system : Order → Reader System
system o = do
  n ← name
  fs ← counted o (sized o 8)
  give (record { name = n; formats = fs })

unfoldable pub sections : Order → Reader Sections
sections o = do
  p ← after page_word (sized o 8)
  e ← after event_word (sized o 8)
  fs ← counted o (sized o 8)
  ss ← counted o (system o)
  give (record { header_page = p; header_event = e; formats = fs; systems = ss })

-- the CPU count is judged where it is read
unfoldable pub texts : Order → Reader Texts
texts o = do
  k ← sized o 4
  f ← sized o 4
  p ← sized o 8
  n ← such (num o 4 field_past_file) (λ n. leb n most_cpus) bad_range
  give (record { kallsyms = k; printk = f; processes = p; cpus = n })

-- the 10-byte word
abbrev pub is_word : List ℕ → Bool
is_word b = starts (put_word options_word) b || (starts (put_word latency_word) b || starts (put_word fly_word) b)

abbrev pub word_in : List ℕ → Word
word_in b = cond (starts (put_word options_word) b) options_word (cond (starts (put_word latency_word) b) latency_word fly_word)

unfoldable pub word : Reader Word
word = do
  b ← such (bytes 10 field_past_file) is_word bad_constant
  give (word_in b)

-- Options up to the closing 0. The count, the list's length, is always large enough: an option takes two bytes and more.
abbrev pub options_f : ℕ → Order → Reader (List Opt)
options_f zero o = refuse field_past_file
options_f (suc f) o = do
  t ← num o 2 field_past_file
  cond (eqb t 0) (give []) (do
    d ← sized o 4
    l ← options_f f o
    give (record { type = t; body = d } ∷ l))

unfoldable pub options : Order → Reader (List Opt)
options o b = options_f (length b) o b

unfoldable pub range : Order → Reader Range
range o = do
  a ← num o 8 field_past_file
  n ← num o 8 field_past_file
  give (record { offset = a; size = n })

-- what follows the last word, for n CPUs; after options never `options` again
unfoldable pub ending : Order → ℕ → Word → Reader Ending
ending o n options_word = refuse bad_constant
ending o n latency_word = give latency
ending o n fly_word = do
  rs ← times n (range o)
  give (flyrecord rs)

unfoldable pub tail_after : Order → ℕ → Word → Reader Tail
tail_after o n options_word = do
  l ← options o
  w ← word
  e ← ending o n w
  give (record { options = some l; ending = e })
tail_after o n latency_word = do
  e ← ending o n latency_word
  give (record { options = none; ending = e })
tail_after o n fly_word = do
  e ← ending o n fly_word
  give (record { options = none; ending = e })

unfoldable pub tail : Order → ℕ → Reader Tail
tail o n = do
  w ← word
  tail_after o n w

unfoldable pub header : Reader Header
header = do
  h ← opening
  s ← sections h.order
  t ← texts h.order
  e ← tail h.order t.cpus
  give (record { opening = h; sections = s; texts = t; tail = e })

-- CPU ranges: each entry in order for 14, as `header` reads them; then each in order for 16, then 17
unfoldable pub checked : ℕ → Header → Answer Header
checked total h =
    let rs = ranges h.tail.ending in
    let sound : Answer Header = cond (all_apart rs) (accepted h) (refused ranges_overlap) in
    cond (all (in_file h.opening.page (length (encode h)) total) rs) sound (refused bad_range)

unfoldable pub decode : List ℕ → Answer Header
decode b =
    let read : Answer Header = next (header b) (λ r. checked (length b) r.0) in
    cond (leb (length b) limit) read (refused too_long)
