-- The first string that is refused refuses the opening; behind all three stand the flags.
use Rattle.fields.specs.Given.{bytes-given, handed_on}
use Rattle.dat_walk.proofs.OpeningLaws.{bad_magic, bad_tracing, bad_version, opening_read}
use Rattle.dat_walk.proofs.opening.opening_of.Goals as goal

pub returns-in_err-name : goal.returns-in_err-name
returns-in_err-name c =
    let s = c.args.s.now in rw (handed_on c.from_residual.ensures.1) (bad_magic s (bytes-given s c.type_inv.s) c.in_err-name.ensures)

pub returns-in_err-version : goal.returns-in_err-version
returns-in_err-version c =
    let s = c.args.s.now in
    rw (handed_on c.from_residual-in_err-version.ensures.1)
    (bad_tracing s (bytes-given s c.type_inv.s) c.in_ok-name.ensures c.in_err-version.ensures)

pub returns-in_err-flags : goal.returns-in_err-flags
returns-in_err-flags c =
    let s = c.args.s.now in
    rw (handed_on c.from_residual-in_err-flags.ensures.1)
    (bad_version s (bytes-given s c.type_inv.s) c.in_ok-name.ensures c.in_ok-version.ensures c.in_err-flags.ensures)

pub returns : goal.returns
returns c =
    let s = c.args.s.now in
    opening_read s (bytes-given s c.type_inv.s) c.in_ok-name.ensures c.in_ok-version.ensures c.in_ok-flags.ensures c.flags_at.ensures
