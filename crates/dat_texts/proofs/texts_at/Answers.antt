-- The first text that is refused refuses them all, and so does a count of CPUs that is too large; else each part starts behind its size.
use Rattle.std.proofs.Common.{arith}
use Rattle.fields.specs.Given.{bytes-given, handed_on}
use Rattle.dat_texts.proofs.TextLaws.{bad_kallsyms, bad_printk, bad_processes, no_count, many_cpus, texts_read}
use Rattle.dat_texts.proofs.texts_at.Goals as goal

pub returns-in_err-printk : goal.returns-in_err-printk
returns-in_err-printk c =
    let a = c.args in
    rw (handed_on c.from_residual.ensures.1) (bad_kallsyms a.order a.s.now (bytes-given a.s.now c.type_inv.s) a.at c.in_err-printk.ensures)

pub returns-in_err-processes : goal.returns-in_err-processes
returns-in_err-processes c =
    let a = c.args in
    rw (handed_on c.from_residual-in_err-processes.ensures.1)
    (bad_printk a.order a.s.now (bytes-given a.s.now c.type_inv.s) a.at c.in_ok-printk.ensures c.in_err-processes.ensures)

pub returns-in_err-count : goal.returns-in_err-count
returns-in_err-count c =
    let a = c.args in
    rw (handed_on c.from_residual-in_err-count.ensures.1)
    (bad_processes a.order a.s.now (bytes-given a.s.now c.type_inv.s) a.at c.in_ok-printk.ensures c.in_ok-processes.ensures c.in_err-count.ensures)

pub returns-in_err-end : goal.returns-in_err-end
returns-in_err-end c =
    let a = c.args in
    rw (handed_on c.from_residual-in_err-end.ensures.1)
    (no_count a.order a.s.now (bytes-given a.s.now c.type_inv.s) a.at c.in_ok-printk.ensures c.in_ok-processes.ensures c.in_ok-count.ensures
    c.in_err-end.ensures)

pub returns-then-cpus-gt-MOST_CPUS : goal.returns-then-cpus-gt-MOST_CPUS
returns-then-cpus-gt-MOST_CPUS c =
    let a = c.args in
    many_cpus a.order a.s.now (bytes-given a.s.now c.type_inv.s) a.at c.in_ok-printk.ensures c.in_ok-processes.ensures c.in_ok-count.ensures
    c.in_ok-end.ensures c.u32_at-cpus.ensures (omega arith)

pub returns : goal.returns
returns c =
    let a = c.args in
    texts_read a.order a.s.now (bytes-given a.s.now c.type_inv.s) a.at c.in_ok-printk.ensures c.in_ok-processes.ensures c.in_ok-count.ensures
    c.in_ok-end.ensures c.u32_at-cpus.ensures (omega arith) c.span.ensures c.span-2.ensures c.span-3.ensures
