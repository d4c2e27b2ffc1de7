-- The head that the walk reaches lies in the file with its data, and its frame is judged as the one of the file up to its end.
use Rattle.std.proofs.Common.{◌+◌, ◌≤◌, ℕ, Bool, length, sym, ap, ◌∙◌, arith, length-take-le}
use Rattle.fields.specs.Given.{bytes-given, handed_on}
use Rattle.fields.specs.Answer.{Answer, accepted, next}
use Rattle.gdb_format.specs.Opening.{size_meaning}
use Rattle.gdb_read.specs.Steps.{head_meaning}
use Rattle.gdb_frames.specs.Questions.{data_in}
use Rattle.gdb_seek.specs.Judged.{six_ahead, data_within, judged_by}
use Rattle.gdb_seek.proofs.frame_behind.Goals as goal

pub overflow_add-end : goal.overflow_add-end
overflow_add-end c =
    let a = c.args in
    let h = c.in_ok-head.field-0.head in
    let w : h.place + h.size ≤ length a.file.now =
    data_within a.layout.format (size_meaning a.layout.size) a.file.now (bytes-given a.file.now c.type_inv.file) a.n a.from c.in_ok-head.ensures in
    omega (arith, w)

pub slice_bounds-frames_from-end : goal.slice_bounds-frames_from-end
slice_bounds-frames_from-end c =
    let a = c.args in
    let h = c.in_ok-head.field-0.head in
    let w : h.place + h.size ≤ length a.file.now =
    data_within a.layout.format (size_meaning a.layout.size) a.file.now (bytes-given a.file.now c.type_inv.file) a.n a.from c.in_ok-head.ensures in
    sym (length-take-le _ a.file.now w)

pub overflow_sub-head : goal.overflow_sub-head
overflow_sub-head c =
    let a = c.args in
    six_ahead a.layout.format (size_meaning a.layout.size) a.file.now (bytes-given a.file.now c.type_inv.file) a.n a.from c.in_ok-head.ensures

pub returns-in_err-frames_from : goal.returns-in_err-frames_from
returns-in_err-frames_from c =
    let a = c.args in
    let h = c.in_ok-head.field-0 in
    rw (handed_on c.from_residual-in_err-frames_from.ensures.1)
    (ap (λ (x : Answer (ℕ × Bool)). next x (λ q. accepted (data_in (head_meaning h.head), h.heads))) c.in_err-frames_from.ensures
    ∙ judged_by a.layout.format (size_meaning a.layout.size) a.file.now (bytes-given a.file.now c.type_inv.file) a.n a.from c.in_ok-head.ensures)

pub returns : goal.returns
returns c =
    let a = c.args in
    let h = c.in_ok-head.field-0 in
    ap (λ (x : Answer (ℕ × Bool)). next x (λ q. accepted (data_in (head_meaning h.head), h.heads))) c.in_ok-frames_from.ensures
    ∙ judged_by a.layout.format (size_meaning a.layout.size) a.file.now (bytes-given a.file.now c.type_inv.file) a.n a.from c.in_ok-head.ensures
