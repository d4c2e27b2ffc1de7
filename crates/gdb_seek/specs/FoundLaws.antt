-- The answer from the answers of its parts, as the code goes; that the part which it names lies in the file.
-- Assumes nothing.
use Rattle.std.specs.Prelude.{◌≡◌, ℕ, ◌<◌, ◌≤◌, List, [], leb}
use Rattle.std.proofs.Common.{sym, ◌∙◌, le-leb}
use Rattle.std.proofs.Math.Path.{ap}
use Rattle.std.proofs.Math.Option.{Option}
use Rattle.std.proofs.Math.ListN.{length}
use Rattle.std.proofs.lemmas.Bool.{lt-leb}
use Rattle.refusals.specs.Refusal.{limit, too_long}
use Rattle.fields.specs.Number.{Bytes}
use Rattle.fields.specs.Answer.{Answer, accepted, refused, next_inv, refused_inv, cond_inv, accepted-one, accepted_inj}
use Rattle.gdb_format.specs.Settings.{settings_of}
use Rattle.gdb_format.specs.Trace.{opening}
use Rattle.gdb_format.specs.Lines.{register_size}
use Rattle.gdb_format.specs.Opening.{opening_seen}
use Rattle.gdb_format.specs.Decode.{blocks, opening_lines}
use Rattle.gdb_format.specs.declared.Settings.{Settings}
use Rattle.gdb_format.specs.declared.Format.{Format}
use Rattle.gdb_read.specs.Steps.{Row}
use Rattle.gdb_frames.specs.Places.{part}
use Rattle.gdb_frames.specs.Questions.{data_in}
use Rattle.gdb_frames.specs.PlaceLaws.{InFile}
use Rattle.gdb_seek.specs.Walk.{Walk, walk_to}
use Rattle.gdb_seek.specs.Found.{judged, found_in, frame_found, data_found}
use Rattle.gdb_seek.specs.Turns.{arrived, reached_within}

-- ---- the blocks of the frame that a walk has reached

module _ (f : Format) (size : Option ℕ) (b : List ℕ) (w : Walk) where
  pub not_reached : {k : ℕ} → refused k ≡ arrived w → refused k ≡ judged f size b w
  not_reached {k} e = rw (refused_inv k w.reached (λ r. (r, length w.visited)) e)

  module _ {r : Row} {k : ℕ} (e : accepted (r, k) ≡ arrived w) where
    pub here : (w.reached ≡ accepted r) × (length w.visited ≡ k)
    here =
        let q = next_inv w.reached (λ r. accepted (r, length w.visited)) (sym e) in
        let i = accepted_inj q.2 in
        (q.1 ∙ ap accepted i.0, i.1)

-- ---- the file

module _ (f : Format) (b : List ℕ) (n : ℕ) where
  pub found-too_long : limit < length b → refused too_long ≡ found_in f b n
  found-too_long h = rw (lt-leb (length b) limit h)

  module _ (short : length b ≤ limit) where
    pub found-no-opening : (k : ℕ) → refused k ≡ opening_seen f b → refused k ≡ found_in f b n
    found-no-opening k e =
        rw (le-leb (length b) limit short, refused_inv k (opening_lines f b) (λ r. (length (opening r.0), register_size f r.0)) e)

    pub found-behind : (end : ℕ) (size : Option ℕ) → accepted (end, size) ≡ opening_seen f b → {x : Answer ((ℕ × ℕ) × ℕ)}
        → x ≡ judged f size b (walk_to f b n end) → x ≡ found_in f b n
    found-behind end size e i =
        let q = next_inv (opening_lines f b) (λ r. accepted (length (opening r.0), register_size f r.0)) (sym e) in
        let j = accepted_inj q.2 in
        rw (le-leb (length b) limit short, q.1, j.0, j.1) i

-- ---- under the caller's settings

module _ (s : Settings) (b : List ℕ) (n : ℕ) where
  pub found-no-format : (k : ℕ) → refused k ≡ settings_of s → refused k ≡ frame_found s b n
  unfolding frame_found
  found-no-format k e = rw (← e)

  pub found-format : (f : Format) → accepted f ≡ settings_of s → {x : Answer ((ℕ × ℕ) × ℕ)} → x ≡ found_in f b n → x ≡ frame_found s b n
  unfolding frame_found
  found-format f e i = rw (← e) i

  -- the part that is answered lies in the file
  pub found-in-file : Bytes b → InFile b (data_found s b n)
  unfolding frame_found
  found-in-file h d e =
      let x = next_inv (frame_found s b n) (λ r. accepted r.0) e in
      let y = next_inv (settings_of s) (λ f. found_in f b n) x.1 in
      let f = y.0 in
      let o = next_inv (opening_lines f b) _ (cond_inv (leb (length b) limit) _ too_long y.2).1 in
      let at = length (opening o.0.0) in
      let r = next_inv (walk_to f b n at).reached _ o.2 in
      let q = next_inv (blocks f (register_size f o.0.0) (part b (accepted (data_in r.0))) []) _ r.2 in
      let i : data_in r.0 ≡ d = ap (λ (z : (ℕ × ℕ) × ℕ). z.0) (accepted-one q.2) ∙ accepted-one x.2 in
      rw (← i) (reached_within f b n at r.0 h r.1)
