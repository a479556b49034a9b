use Rattle.std.proofs.Common.{◌≡◌, ◌∙◌, ap, sym, length, Option, None, false, slice_get, arith}
use Rattle.ae_tree.specs.Shown.{invocation}
use Rattle.ae_rules.specs.Verdict.{given}
use Rattle.ae_rules.specs.Calls.{givens}
use Rattle.ae_semantics.specs.Calls.{Taker, each_argument, given_away, value_comes_back}
use Rattle.ae_judge.specs.Tabled.{code_of}
use Rattle.ae_running.specs.Seen.{seen}
use Rattle.ae_frames.specs.Asking.{handed, is_spared}
use Rattle.ae_frames.specs.Givens.{takers_of}
use Rattle.ae_frames.proofs.AskedLemmas.{one_more_asked, asking_fails, all_are_asked, fewer_left, taker_there}
use Rattle.ae_frames.proofs.arguments.arguments.Goals as goal

pub returns-in-Err-clause-asked : goal.returns-in-Err-clause-asked
returns-in-Err-clause-asked c =
    let es = givens (invocation c.args.call.now) in
    let same : c.len.result ≡ length c.loop-handed.args.items = omega (arith, c.len.ensures, c.loop-handed.args.ok.0) in
    let p = code_of c.args.tabled.now in
    let s = seen c.args.run.now in
    asking_fails (each_argument p s es) p s (takers_of c.args.takers.now) es c.loop-handed.args.items
    (handed c.in-Some.handed) c.in-Err.stop c.loop-handed.invariant
    (sym (c.in-Some.ensures ∙ ap (slice_get es) same)) c.in-Err.ensures.asked

pub loop-handed-smaller : goal.loop-handed-smaller
loop-handed-smaller c =
    let es = givens (invocation c.args.call.now) in
    let same : c.len.result ≡ length c.loop-handed.args.items = omega (arith, c.len.ensures, c.loop-handed.args.ok.0) in
    fewer_left es c.loop-handed.args.items c.push.new.self.items c.in-Ok.arg (handed c.in-Some.handed)
    (sym (c.in-Some.ensures ∙ ap (slice_get es) same)) c.in-Ok-push.ensures.items

pub loop-handed-preserved : goal.loop-handed-preserved
loop-handed-preserved c =
    let es = givens (invocation c.args.call.now) in
    let same : c.len.result ≡ length c.loop-handed.args.items = omega (arith, c.len.ensures, c.loop-handed.args.ok.0) in
    let p = code_of c.args.tabled.now in
    let s = seen c.args.run.now in
    let ts = takers_of c.args.takers.now in
    let xs = c.loop-handed.args.items in
    let again : c.len-in-Some.result ≡ length xs = omega (arith, c.len-in-Some.ensures, c.loop-handed.args.ok.0) in
    one_more_asked (each_argument p s es) p s ts es xs c.push.new.self.items c.in-Ok.arg
    (handed c.in-Some.handed) c.loop-handed.invariant
    (sym (c.in-Some.ensures ∙ ap (slice_get es) same)) c.in-Ok.ensures.asked
    (ap (λ (o : Option Taker). is_spared (given o false (λ t. value_comes_back t.1))
    (given o None (λ t. given_away (t, handed c.in-Some.handed))) c.in-Ok.arg)
    (sym (taker_there c.get.result c.args.takers.now c.len-in-Some.result c.get.ensures.lookup.3
    ∙ ap (slice_get ts) again)) ∙ c.in-Ok.ensures.spared)
    c.in-Ok-push.ensures.items

pub returns-clause-asked : goal.returns-clause-asked
returns-clause-asked c =
    let es = givens (invocation c.args.call.now) in
    let same : c.len.result ≡ length c.loop-handed.args.items = omega (arith, c.len.ensures, c.loop-handed.args.ok.0) in
    let p = code_of c.args.tabled.now in
    let s = seen c.args.run.now in
    all_are_asked (each_argument p s es) p s (takers_of c.args.takers.now) es c.loop-handed.args.items
    c.loop-handed.invariant (ap (slice_get es) (sym same) ∙ sym c.in_default.ensures)
