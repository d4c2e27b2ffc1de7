-- The first stretch that is refused refuses the header; where all four are read, so is the header.
use Rattle.fields.specs.Given.{bytes-given, handed_on}
use Rattle.dat_walk.proofs.WalkLaws.{bad_opening, bad_sections, bad_texts, bad_tail, all_read}
use Rattle.dat_walk.proofs.walk.Goals as goal

pub returns-in_err-flags : goal.returns-in_err-flags
returns-in_err-flags c =
    let s = c.args.s.now in rw (handed_on c.from_residual.ensures.1) (bad_opening s (bytes-given s c.type_inv.s) c.in_err-flags.ensures)

pub returns-in_err-sections : goal.returns-in_err-sections
returns-in_err-sections c =
    let s = c.args.s.now in
    rw (handed_on c.from_residual-in_err-sections.ensures.1)
    (bad_sections s (bytes-given s c.type_inv.s) c.in_ok-flags.ensures c.in_err-sections.ensures)

pub returns-in_err-texts : goal.returns-in_err-texts
returns-in_err-texts c =
    let s = c.args.s.now in
    rw (handed_on c.from_residual-in_err-texts.ensures.1)
    (bad_texts s (bytes-given s c.type_inv.s) c.in_ok-flags.ensures c.in_ok-sections.ensures c.in_err-texts.ensures)

pub returns-in_err-tail : goal.returns-in_err-tail
returns-in_err-tail c =
    let s = c.args.s.now in
    rw (handed_on c.from_residual-in_err-tail.ensures.1)
    (bad_tail s (bytes-given s c.type_inv.s) c.in_ok-flags.ensures c.in_ok-sections.ensures c.in_ok-texts.ensures c.in_err-tail.ensures)

pub returns : goal.returns
returns c =
    let s = c.args.s.now in
    all_read s (bytes-given s c.type_inv.s) c.in_ok-flags.ensures c.in_ok-sections.ensures c.in_ok-texts.ensures c.in_ok-tail.ensures
    c.body_of.ensures
