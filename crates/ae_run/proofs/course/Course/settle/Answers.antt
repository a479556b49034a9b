use Rattle.std.proofs.Common.{◌≡◌, ◌<◌, ℕ, true, false, ◌∙◌, refl, ap, sym, subst}
use Rattle.ae_tree.specs.Plain.{Lines, Code}
use Rattle.ae_tree.specs.Shown.{code}
use Rattle.ae_meaning.specs.Running.{held}
use Rattle.ae_run.specs.declared.course.Fate.TheVariants as fate
use Rattle.ae_run.specs.Main.{main_lines, main_uses}
use Rattle.ae_run.specs.Flow.{alone}
use Rattle.ae_run.specs.Course.{IsBehind}
use Rattle.ae_run.proofs.Courses.{settled, left_out, lacking, gone, ended_here, alone-here}
use Rattle.ae_run.proofs.Programs.{main_tells}
use Rattle.ae_run.proofs.course.Course.settle.Goals as goal

pub returns-then-is_behind-clause-course : goal.returns-then-is_behind-clause-course
returns-then-is_behind-clause-course g c =
    let s = c.args.self.now in
    let p : Code = code c.args.code.now.program in
    let behind : IsBehind s.first c.args.j = c.is_behind.ensures.0 c.if-is_behind.true in
    rw (c.set.ensures.fates, c.set.ensures.first, c.set.ensures.state)
    (left_out (main_lines p) (main_uses p) s.fates.items s.first (held s.state) c.args.j
    (c.requires.course, c.requires.ready, c.requires.untaken, c.requires.counted) behind)

pub returns-then-is_behind-clause-fates : goal.returns-then-is_behind-clause-fates
returns-then-is_behind-clause-fates g c = settled c.args.self.now.fates.items c.set.new.self.fates.items c.args.j
    fate.Stopped refl c.set.ensures.fates

pub returns-in-Went-clause-course : goal.returns-in-Went-clause-course
returns-in-Went-clause-course g c =
    let s = c.args.self.now in
    let p : Code = code c.args.code.now.program in
    let given = rw c.in-Went.is at c.in_ok-piece.ensures in
    rw (c.set-in-Went.ensures.fates, c.set-in-Went.ensures.first, c.set-in-Went.ensures.state)
    (gone (main_lines p) (main_uses p)
    (main_tells c.statements_read_what_they_use.ensures c.statements_change_what_they_write.ensures p
    c.args.code.now.accepted c.requires.built) s.fates.items s.first (held s.state)
    (held c.run_alone.new.state) c.args.j c.in-Went.piece
    (c.requires.course, c.requires.ready, c.requires.untaken, c.requires.counted)
    (ap (λ (b : Lines). alone b c.args.j (held s.state).env) (sym c.main_stmts-stmts.ensures.lines)
    ∙ alone-here c.main_stmts-stmts.result.now c.args.j c.index-stmts-j.result (held s.state) (subst (λ (n : ℕ).
    c.args.j < n) (sym c.main_stmts-stmts.ensures.count) c.requires.within) c.index-stmts-j.is
    c.requires.course.log ∙ given.0) given.1)

pub returns-in-Went-clause-fates : goal.returns-in-Went-clause-fates
returns-in-Went-clause-fates g c = settled c.args.self.now.fates.items c.set-in-Went.new.self.fates.items c.args.j
    (fate.Went c.in-Went.piece) refl c.set-in-Went.ensures.fates

pub returns-in-Ended-clause-course : goal.returns-in-Ended-clause-course
returns-in-Ended-clause-course g c =
    let s = c.args.self.now in
    let p : Code = code c.args.code.now.program in
    let given = rw c.in-Ended.is at c.in_ok-piece.ensures in
    let ahead : IsBehind s.first c.args.j → ⊥ = λ h. let t : c.is_behind.result
    ≡ true = c.is_behind.ensures.1 h in let f : c.is_behind.result ≡ false = c.if-is_behind.false in cc in
    rw (c.set-in-Ended.ensures.fates, c.set-in-Ended.ensures.state)
    (ended_here (main_lines p) (main_uses p)
    (main_tells c.statements_read_what_they_use.ensures c.statements_change_what_they_write.ensures p
    c.args.code.now.accepted c.requires.built) s.fates.items s.first (held s.state)
    (held c.run_alone.new.state) c.args.j c.in-Ended.ending
    (c.requires.course, c.requires.ready, c.requires.untaken, c.requires.counted) ahead
    (ap (λ (b : Lines). alone b c.args.j (held s.state).env) (sym c.main_stmts-stmts.ensures.lines)
    ∙ alone-here c.main_stmts-stmts.result.now c.args.j c.index-stmts-j.result (held s.state) (subst (λ (n : ℕ).
    c.args.j < n) (sym c.main_stmts-stmts.ensures.count) c.requires.within) c.index-stmts-j.is
    c.requires.course.log ∙ given.0) given.1)

pub returns-in-Ended-clause-fates : goal.returns-in-Ended-clause-fates
returns-in-Ended-clause-fates g c = settled c.args.self.now.fates.items c.set-in-Ended.new.self.fates.items c.args.j
    fate.Stopped refl c.set-in-Ended.ensures.fates

pub returns-in-Lacks-clause-course : goal.returns-in-Lacks-clause-course
returns-in-Lacks-clause-course g c =
    let s = c.args.self.now in
    let p : Code = code c.args.code.now.program in
    let given = rw c.in-Lacks.is at c.in_ok-piece.ensures in
    rw (c.set-in-Lacks.ensures.fates, c.set-in-Lacks.ensures.first, c.set-in-Lacks.ensures.state)
    (lacking (main_lines p) (main_uses p)
    (main_tells c.statements_read_what_they_use.ensures c.statements_change_what_they_write.ensures p
    c.args.code.now.accepted c.requires.built) s.fates.items s.first (held s.state)
    (held c.run_alone.new.state) c.args.j
    (c.requires.course, c.requires.ready, c.requires.untaken, c.requires.counted)
    (ap (λ (b : Lines). alone b c.args.j (held s.state).env) (sym c.main_stmts-stmts.ensures.lines)
    ∙ alone-here c.main_stmts-stmts.result.now c.args.j c.index-stmts-j.result (held s.state) (subst (λ (n : ℕ).
    c.args.j < n) (sym c.main_stmts-stmts.ensures.count) c.requires.within) c.index-stmts-j.is
    c.requires.course.log ∙ given.0) given.1)

pub returns-in-Lacks-clause-fates : goal.returns-in-Lacks-clause-fates
returns-in-Lacks-clause-fates g c = settled c.args.self.now.fates.items c.set-in-Lacks.new.self.fates.items c.args.j
    fate.Stopped refl c.set-in-Lacks.ensures.fates
