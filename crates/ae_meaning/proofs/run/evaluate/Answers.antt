use Rattle.std.proofs.Common.{◌≡◌, IfOk, map, subst}
use Rattle.ae_tree.specs.declared.tree.Program.{Program}
use Rattle.ae_tree.specs.Shown.{code, definition}
use Rattle.ae_meaning.specs.Meaning.{today_many, main_body, begin, meaning_of_run, today_seq}
use Rattle.ae_meaning.proofs.Fits.{program_ends, ending_some}
use Rattle.ae_meaning.proofs.run.evaluate.Goals as goal

pub returns-clause-ends : goal.returns-clause-ends
unfolding today_seq
returns-clause-ends c =
    let p = code c.args.code.now.program in
    ending_some c.run_main.result (today_seq p c.args.ints.now c.args.fuel).ending
    (subst (λ (q : Program). IfOk c.run_main.result (λ m. m.ending
    ≡ (meaning_of_run (today_many (main_body (map definition q.methods)) begin)).ending)) c.program.ensures.program
    c.run_main.ensures.ending)
    (program_ends p c.args.code.now.accepted c.requires.built c.args.ints.now c.args.fuel)
