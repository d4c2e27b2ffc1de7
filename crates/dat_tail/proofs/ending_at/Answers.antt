-- Each word has its ending, and a second list of options has none.
use Rattle.fields.specs.Given.{handed_on}
use Rattle.dat_tail.proofs.TailLaws.{again, text, bad_entries, with_entries}
use Rattle.dat_tail.proofs.ending_at.Goals as goal

pub returns-in-Options : goal.returns-in-Options
returns-in-Options c = λ o. let a = c.args in again o a.cpus a.options a.s.now a.at c.in-Options.is

pub returns-in_err-entries_at-in-Flyrecord : goal.returns-in_err-entries_at-in-Flyrecord
returns-in_err-entries_at-in-Flyrecord c = λ o.
    let a = c.args in
    rw (handed_on c.from_residual.ensures.1)
    (bad_entries o a.cpus a.options a.s.now a.at c.in-Flyrecord.is (c.in_err-entries_at-in-Flyrecord.ensures o))

pub returns-in-Latency : goal.returns-in-Latency
returns-in-Latency c = λ o. let a = c.args in text o a.cpus a.options a.s.now a.at c.requires c.in-Latency.is

pub returns-in_ok-entries_at-in-Flyrecord : goal.returns-in_ok-entries_at-in-Flyrecord
returns-in_ok-entries_at-in-Flyrecord c = λ o.
    let a = c.args in with_entries o a.cpus a.options a.s.now a.at c.in-Flyrecord.is (c.in_ok-entries_at-in-Flyrecord.ensures o)
