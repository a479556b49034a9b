use Rattle.std.proofs.Common.{◌≡◌, ap, sym, subst, ◌∙◌, None, Some, option_map, ◌<◌}
use Rattle.std.proofs.lemmas.Option.{none-some}
use Rattle.ae_semantics.specs.Values as meant
use Rattle.ae_semantics.specs.Values.{height, put_at}
use Rattle.ae_semantics.specs.Places.{Fine, there, with_bound, write_in, ◌>>=◌}
use Rattle.ae_values.specs.Environments.{bound_under}
use Rattle.ae_values.specs.Shown.{shown}
use Rattle.ae_reads.specs.Answers.{one_name}
use Rattle.ae_reads.specs.Views.{base_of}
use Rattle.ae_running.specs.Seen.{seen}
use Rattle.ae_stores.specs.Stand.{whole_at}
use Rattle.ae_stores.proofs.OutcomeLemmas.{fine_first, there_is}
use Rattle.ae_stores.proofs.EmptyLemmas.{emptied_is_seen}
use Rattle.ae_stores.proofs.HeldLemmas.{held_is_shown, held_is_local, none_held_no_local}
use Rattle.ae_stores.proofs.MoveLemmas.{whole_besides}
use Rattle.ae_stores.proofs.moving.hand_over.Goals as goal

pub write_moved-requires-clause-room : goal.write_moved-requires-clause-room
write_moved-requires-clause-room c = λ other whole is.
    let run = c.args.run.now in
    let x = c.args.name in
    let b = base_of c.args.base in
    let o = bound_under run.env x in
    let held = sym c.take.ensures.value ∙ c.in-Some.is in
    let l = held_is_local o c.in-Some.value held in
    let emptied = emptied_is_seen one_name (option_map shown run.result) run.env c.take.new.self x
    c.take.ensures.left in
    let same : whole_at (seen run) b ≡ Some whole =
    sym (whole_besides (seen run) x b other) ∙ ap (λ s. whole_at s b) (sym emptied) ∙ is in
    subst (λ (v : meant.Val). height (put_at c.args.fields.now v whole) < 4294967296)
    (held_is_shown o c.in-Some.value l.0 held l.1) (c.requires.room l.0 whole l.1 same)

pub returns-in-Some-clause-meant : goal.returns-in-Some-clause-meant
returns-in-Some-clause-meant c = λ t e.
    let run = c.args.run.now in
    let s = seen run in
    let x = c.args.name in
    let b = base_of c.args.base in
    let o = bound_under run.env x in
    let held = sym c.take.ensures.value ∙ c.in-Some.is in
    let l = fine_first (there (s.locals x))
    (λ l. write_in s b c.args.fields.now l.value >>= λ u. Fine (with_bound x None u)) t e in
    let w = fine_first (write_in s b c.args.fields.now l.0.value) (λ u. Fine (with_bound x None u)) t l.2 in
    let value : l.0.value ≡ shown c.in-Some.value =
    held_is_shown o c.in-Some.value l.0 held (there_is (s.locals x) l.0 l.1) in
    let last : with_bound x None w.0 ≡ t = cc (w.2) in
    c.write_moved.ensures.meant s w.0
    (emptied_is_seen one_name (option_map shown run.result) run.env c.take.new.self x c.take.ensures.left)
    (ap (write_in s b c.args.fields.now) (sym value) ∙ w.1)
    ∙ last

pub returns-in-None-clause-meant : goal.returns-in-None-clause-meant
returns-in-None-clause-meant c = λ t e.
    let run = c.args.run.now in
    let s = seen run in
    let x = c.args.name in
    let b = base_of c.args.base in
    let l = fine_first (there (s.locals x))
    (λ l. write_in s b c.args.fields.now l.value >>= λ u. Fine (with_bound x None u)) t e in
    let none : s.locals x ≡ None =
    none_held_no_local (bound_under run.env x) (sym c.take.ensures.value ∙ c.in-None.is) in
    absurd (none-some l.0 (sym none ∙ there_is (s.locals x) l.0 l.1))
