-- A frame is read exactly when it is laid out so: its head with its data, and then its blocks.
-- Assumes nothing.
use Rattle.std.specs.Prelude.{◌≡◌, refl, Bool, true, false, cond, ℕ, ◌^◌, ◌<◌, length, eqb}
use Rattle.std.proofs.Common.{sym, ap, ◌∙◌, arith, eqb-true, le-leb}
use Rattle.std.proofs.Math.Option.{Option, none, some}
use mathlib.Core.List.{List, [], ◌∷◌, ◌++◌, append-nil}
use Rattle.std.proofs.lemmas.Bool.{eqb-false}
use Rattle.refusals.specs.Refusal.{short_head, data_past_file, bad_mark}
use Rattle.fields.specs.Lists.{concat_map, Each, AtMostOne, FirstsAfter, firsts_of, of_firsts, clash}
use Rattle.fields.specs.Number.{Bytes, number, field, bytes_back}
use Rattle.fields.specs.Word.{same_bytes, same_bytes_lem}
use Rattle.fields.specs.Answer.{accepted, refused, never, next, next_inv, accepted_inj}
use Rattle.fields.specs.Reader.{Reader, ◌>>=◌, give, refuse}
use Rattle.fields.specs.Exact.{Back, Forth, Exact, exact_give, exact_bytes, exact_given, exact_then, exact_as, exact_num}
use Rattle.fields.specs.Exact.{exact_refuse, exact_cond, back-filling, forth-filling}
use Rattle.fields.specs.Takes.{Shorter, Takes, shorter, takes-give, takes-bytes, takes_then, takes-num, takes_less, takes-after, takes-filling}
use Rattle.fields.specs.Takes.{takes-refuse, takes-cond}
use Rattle.fields.specs.Until.{Ends, goes_on_lem, until_end, until-fault, until_more, back-until, forth-until}
use Rattle.fields.specs.declared.Order.{Order}
use Rattle.fields.specs.declared.Order.TheVariants.{Little, Big}
use Rattle.gdb_format.specs.Trace.{Block, is_registers, Frame, data_of, put_block, put_data, put_frame, mark, put_mark}
use Rattle.gdb_format.specs.Layout.{BlockFits, FrameFits}
use Rattle.gdb_format.specs.Decode.{block_after, seen_after, numbered, frame_head, blocks, frame, ending, frames}
use Rattle.gdb_format.specs.ExactBlock.{exact_block-after, shorter-block-after}
use Rattle.gdb_format.specs.declared.Format.{Format}

-- ---- the head with its data

abbrev pub HeadFits : ℕ × List ℕ → Type 0
HeadFits h = (h.0 < 2 ^ 16) × (length h.1 < 2 ^ 32) × (0 < h.0)

-- behind the number n
abbrev Numbered : ℕ → ℕ × List ℕ → Type 0
Numbered n h = (h.0 ≡ n) × (length h.1 < 2 ^ 32)

abbrev put_numbered : Format → ℕ × List ℕ → List ℕ
put_numbered f h = field f.order 4 (length h.1) ++ h.1

exact_numbered : (f : Format) (n : ℕ) → Exact (numbered f n) (Numbered n) (put_numbered f)
unfolding numbered
exact_numbered f n =
    exact_as
    (exact_then (exact_num f.order 4 short_head) (λ k.
    exact_then (exact_bytes k data_past_file) (λ d. exact_give (n, d))
    (λ h. h.1) (λ d h g e. ap (λ h. h.1) e))
    (λ h. length h.1) (λ k h g e. e.0))
    (λ h g. ((g.1, (refl, rw (← g.0))), simp append-nil))
    (λ h g. ((ap (λ h. h.0) g.1.1, g.0), simp append-nil))

-- 0 begins no frame
exact_after : (f : Format) (n : ℕ) → Exact (cond (eqb n 0) (refuse bad_mark) (numbered f n)) (λ h. Numbered n h × (0 < n)) (put_numbered f)
exact_after f n =
    exact_cond (eqb n 0) (λ e. exact_refuse bad_mark _ _ (λ h g. omega (arith, eqb-true n 0 e, g.1)))
    (λ e. exact_as (exact_numbered f n) (λ h g. (g.0, refl)) (λ h g. ((g, not_zero (eqb-false n 0 e)), refl)))
  where
    not_zero : (n ≡ 0 → ⊥) → 0 < n
    not_zero z = omega (arith, z)

pub exact_head : (f : Format) → Exact (frame_head f) HeadFits (put_data f)
unfolding frame_head
exact_head f =
    exact_as (exact_then (exact_num f.order 2 short_head) (exact_after f) (λ h. h.0) (λ n h g e. e.0.0))
    (λ h g. ((g.0, ((refl, g.1), g.2)), refl))
    (λ h g. ((g.0, g.1.0.1, g.1.1), refl))

takes-numbered : (f : Format) (n : ℕ) → Takes 0 (numbered f n)
unfolding numbered
takes-numbered f n =
    takes-after 4 (takes-num f.order 4 short_head) (λ k.
    takes-after k (takes-bytes k data_past_file) (λ d. takes-give (n, d)))

pub takes-head : (f : Format) → Takes 1 (frame_head f)
unfolding frame_head
takes-head f =
    takes_less 2 1 (omega arith) (takes_then 2 (takes-num f.order 2 short_head) (λ n.
    takes-cond (eqb n 0) (takes-refuse bad_mark 0) (takes-numbered f n)))

-- ---- the blocks that fill the data

-- the frame that has this head, and blocks that fill its data
abbrev IsFrame : Format → Option ℕ → ℕ × List ℕ → Frame → Type 0
IsFrame f size h r = (r.tracepoint ≡ h.0) × Each (BlockFits size) r.blocks × (data_of f r ≡ h.1) × AtMostOne is_registers r.blocks

abbrev body : Format → Option ℕ → ℕ × List ℕ → Reader Frame
body f size h = do
  bs ← blocks f size h.1
  give (record { tracepoint = h.0; blocks = bs })

body_back : (f : Format) (size : Option ℕ) (h : ℕ × List ℕ) → Back (body f size h) (IsFrame f size h) (λ r. [])
unfolding blocks
body_back f size h r rest g =
    let first = firsts_of (BlockFits size) is_registers r.blocks g.1 g.3 in
    rw (back-filling seen_after (exact_block-after f size) (shorter-block-after f size) false h.1 r.blocks rest (first, g.2), ← g.0)

pub data_bytes : (f : Format) (h : ℕ × List ℕ) → Bytes (put_data f h) → Bytes h.1
data_bytes f h b =
    bytes_back (field f.order 4 (length h.1)) h.1 (bytes_back (field f.order 2 h.0) (field f.order 4 (length h.1) ++ h.1) b)

made-frame : (f : Format) (size : Option ℕ) (h : ℕ × List ℕ) (bs : List Block) (r : Frame)
    → FirstsAfter (BlockFits size) is_registers false bs × (concat_map (put_block f) bs ≡ h.1)
    → record { tracepoint = h.0; blocks = bs } ≡ r → IsFrame f size h r
made-frame f size h bs r g e = let q = of_firsts (BlockFits size) is_registers bs g.0 in rw (← e) (refl, q.0, g.1, q.1)

body-forth : (f : Format) (size : Option ℕ) (h : ℕ × List ℕ) → Bytes (put_data f h) → Forth (body f size h) (IsFrame f size h) (λ r. [])
unfolding blocks
body-forth f size h w b r rest hb e =
    let q = next_inv (blocks f size h.1 b) _ e in
    let g = forth-filling seen_after (exact_block-after f size) (shorter-block-after f size) false h.1 (data_bytes f h w) b q.0.0 q.0.1 hb q.1 in
    let i = accepted_inj q.2 in
    (made-frame f size h q.0.0 r g.0 i.0, sym i.1 ∙ g.1)

pub exact_frame : (f : Format) (size : Option ℕ) → Exact (frame f size) (FrameFits f size) (put_frame f)
unfolding frame
exact_frame f size =
    exact_as
    (exact_given (exact_head f) (body f size) (IsFrame f size) (λ h r. []) (body_back f size) (body-forth f size)
    (λ r. (r.tracepoint, data_of f r)) (λ h r g e. same h r e.0 e.2))
    (λ r g. (((g.0, g.1, g.3), (refl, g.2, refl, g.4)), append-nil (put_frame f r)))
    (λ r g. ((g.0.0, g.0.1, g.1.1, g.0.2, g.1.3), append-nil (put_frame f r)))
  where
    same : (h : ℕ × List ℕ) (r : Frame) → r.tracepoint ≡ h.0 → data_of f r ≡ h.1 → (r.tracepoint, data_of f r) ≡ h
    same h r i j = rw (i, j)

pub takes-frame : (f : Format) (size : Option ℕ) → Takes 1 (frame f size)
unfolding frame blocks
takes-frame f size =
    takes_then 1 (takes-head f) (λ h. takes_then 0 (takes-filling h.1 (block_after f size) seen_after false) (λ bs.
    takes-give (record { tracepoint = h.0; blocks = bs })))

pub shorter-frame : (f : Format) (size : Option ℕ) → Shorter (frame f size)
shorter-frame f size = shorter 1 (frame f size) (omega arith) (takes-frame f size)

-- ---- the frames of a file

zero-pair : (o : Order) → number o (0 ∷ 0 ∷ []) ≡ 0
zero-pair Little = refl
zero-pair Big = refl

-- two bytes of 0 begin no frame
pub zeros-frame : (f : Format) (size : Option ℕ) (b : List ℕ) → frame f size (0 ∷ 0 ∷ b) ≡ refused bad_mark
unfolding frame frame_head
zeros-frame f size b = rw (le-leb 2 (length (0 ∷ 0 ∷ b)) (omega arith), zero-pair f.order)

-- where the file ends, or the mark stands, no frame does
no-frame : (f : Format) (size : Option ℕ) (m : Bool) (r : Frame × List ℕ) → frame f size (put_mark m) ≡ accepted r → ⊥
unfolding frame frame_head
no-frame f size false r e = never e
no-frame f size true r e = never (sym (zeros-frame f size (0 ∷ 0 ∷ [])) ∙ e)

frames-end : (f : Format) (size : Option ℕ) → Ends ending (frame f size) put_mark
frames-end f size =
    record {
      told = elim [ false ↦ refl | true ↦ refl ];
      laid = laid;
      alone = no-frame f size;
    }
  where
    by : (b : List ℕ) (m t : Bool) → same_bytes b mark ≡ t → cond t (some true) none ≡ some m → put_mark m ≡ b
    by b m true i e = let k : m ≡ true = cc in rw k (sym (same_bytes_lem b mark i))
    by b m false i e = clash (cc)

    laid : (b : List ℕ) (m : Bool) → ending b ≡ some m → put_mark m ≡ b
    laid [] m e = let k : m ≡ false = cc in rw k
    laid (x ∷ xs) m e = by (x ∷ xs) m (same_bytes (x ∷ xs) mark) refl e

module _ (f : Format) (size : Option ℕ) where
  pub frames-back : (fs : List Frame) (m : Bool) → Each (FrameFits f size) fs → frames f size (concat_map (put_frame f) fs ++ put_mark m) ≡ accepted (fs, m)
  unfolding frames
  frames-back fs m h = back-until (shorter-frame f size) (frames-end f size) (exact_frame f size) fs m h

  pub frames-forth : (b : List ℕ) (fs : List Frame) (m : Bool) → Bytes b → frames f size b ≡ accepted (fs, m)
      → Each (FrameFits f size) fs × (concat_map (put_frame f) fs ++ put_mark m ≡ b)
  unfolding frames
  frames-forth b fs m h e = forth-until (shorter-frame f size) (frames-end f size) (exact_frame f size) b fs m h e

  -- the frames from one of them on, from a fault, and from their end
  pub frames_more : (b : List ℕ) (r : Frame) (rest : List ℕ) → frame f size b ≡ accepted (r, rest)
      → frames f size b ≡ next (frames f size rest) (λ q. accepted (r ∷ q.0, q.1))
  unfolding frames
  frames_more b r rest e =
      until_more ending (frame f size) (shorter-frame f size) b r rest
      (goes_on_lem (shorter-frame f size) (frames-end f size) (exact_frame f size) b (r, rest) e) e

  pub frames-fault : (b : List ℕ) (n : ℕ) → 0 < length b → same_bytes b mark ≡ false → frame f size b ≡ refused n → frames f size b ≡ refused n
  unfolding frames
  frames-fault [] n h i e = absurd (omega arith)
  frames-fault (x ∷ xs) n h i e = until-fault ending (frame f size) (shorter-frame f size) (x ∷ xs) n (rw i) e

  pub frames-ended : (m : Bool) → frames f size (put_mark m) ≡ accepted ([], m)
  unfolding frames
  frames-ended m = until_end ending (frame f size) (shorter-frame f size) (put_mark m) m ((frames-end f size).told m)
