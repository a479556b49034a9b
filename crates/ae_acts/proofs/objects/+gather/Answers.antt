use Rattle.std.proofs.Common.{◌∙◌, sym, map, ◌∷◌, None, Some}
use Rattle.ae_tree.specs.Shown.{expression}
use Rattle.ae_values.specs.Shown.{shown}
use Rattle.ae_judge.specs.Tabled.{code_of}
use Rattle.ae_reads.specs.declared.stop.Stop.TheVariants as stop
use Rattle.ae_running.specs.Seen.{seen}
use Rattle.ae_acts.specs.Made.{names_there, shown_in_order}
use Rattle.ae_acts.proofs.GatherLemmas.{alone_value, moved_done, first_fails, lost_too}
use Rattle.ae_acts.proofs.objects.+gather.Goals as goal

pub gather_moved-returns-in_ok-all-in-Some-clause-done : goal.gather_moved-returns-in_ok-all-in-Some-clause-done
gather_moved-returns-in_ok-all-in-Some-clause-done t c =
    let p = code_of c.args.tabled.now in
    let s = seen c.args.run.now in
    let mid = seen c.gather.new.run in
    let e = expression c.args.arg.now in
    let x = c.args.name in
    let v = shown c.in-Some.value in
    moved_done p s mid (seen c.take_out.new.run) e (map expression c.args.rest.now) x (names_there c.args.later.now) v
    (shown_in_order c.in_ok-values.values.items) (shown_in_order c.in_ok-all-in-Some.all.items)
    (alone_value p s mid e x c.args.later.now (Some v) (sym c.is_taken.ensures ∙ c.if-is_taken.true)
    c.in_ok-values.ensures.left c.in-Some.ensures.value)
    c.in_ok-values.ensures.done c.in_ok-all-in-Some.ensures.values c.take_out.ensures.left

pub gather_moved-returns-in_ok-all-in-Some-clause-left : goal.gather_moved-returns-in_ok-all-in-Some-clause-left
gather_moved-returns-in_ok-all-in-Some-clause-left t c = lost_too c.args.name (names_there c.args.later.now)
    (seen c.args.run.now) (seen c.gather.new.run) (seen c.take_out.new.run) c.in_ok-values.ensures.left
    c.take_out.ensures.left

pub gather_moved-returns-in-None-clause-done : goal.gather_moved-returns-in-None-clause-done
gather_moved-returns-in-None-clause-done t c =
    let p = code_of c.args.tabled.now in
    let s = seen c.args.run.now in
    let e = expression c.args.arg.now in
    let x = c.args.name in
    first_fails p s e (map expression c.args.rest.now) (x ∷ names_there c.args.later.now) stop.Lack
    (alone_value p s (seen c.gather.new.run) e x c.args.later.now None
    (sym c.is_taken.ensures ∙ c.if-is_taken.true) c.in_ok-values.ensures.left c.in-None.ensures.value)

pub gather_moved-returns-in_ok-all-clause-done : goal.gather_moved-returns-in_ok-all-clause-done
gather_moved-returns-in_ok-all-clause-done t c =
    moved_done (code_of c.args.tabled.now) (seen c.args.run.now) (seen c.gather-else-is_taken.new.run)
    (seen c.take_out-else-is_taken.new.run) (expression c.args.arg.now) (map expression c.args.rest.now) c.args.name
    (names_there c.args.later.now) (shown c.in_ok-value.value) (shown_in_order c.in_ok-values-2.values.items)
    (shown_in_order c.in_ok-all.all.items) c.in_ok-value.ensures.value c.in_ok-values-2.ensures.done
    c.in_ok-all.ensures.values c.take_out-else-is_taken.ensures.left

pub gather_moved-returns-in_ok-all-clause-left : goal.gather_moved-returns-in_ok-all-clause-left
gather_moved-returns-in_ok-all-clause-left t c = lost_too c.args.name (names_there c.args.later.now)
    (seen c.args.run.now) (seen c.gather-else-is_taken.new.run) (seen c.take_out-else-is_taken.new.run)
    c.in_ok-values-2.ensures.left c.take_out-else-is_taken.ensures.left
