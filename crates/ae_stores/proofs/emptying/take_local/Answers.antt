use Rattle.std.proofs.Common.{◌≡◌, refl, ap, sym, ◌∙◌, true, rules, Option, option_map}
use Rattle.ae_rules.specs.Verdict.{given}
use Rattle.ae_semantics.specs.Values as meant
use Rattle.ae_semantics.specs.Values.{is_low, put_at}
use Rattle.ae_semantics.specs.Places.{Fine, Outcome, State, InLocal, there, write_in, ◌>>=◌}
use Rattle.ae_values.specs.Inside.{value_inside}
use Rattle.ae_values.specs.Shown.{shown}
use Rattle.ae_reads.specs.Answers.{one_name}
use Rattle.ae_running.specs.Seen.{seen}
use Rattle.ae_stores.specs.Stand.{whole_at, value_standing}
use Rattle.ae_stores.proofs.ChangeLemmas.{some_is}
use Rattle.ae_stores.proofs.OutcomeLemmas.{given_first}
use Rattle.ae_stores.proofs.WholeLemmas.{whole_bound}
use Rattle.ae_stores.proofs.WriteLemmas.{local_goes_through}
use Rattle.ae_stores.proofs.emptying.take_local.Goals as goal

pub returns-clause-takes : goal.returns-clause-takes
returns-clause-takes c =
    let run = c.args.run.now in
    let s = seen run in
    let x = c.args.name in
    let fields = c.args.fields.now in
    let v = some_is (value_standing s (InLocal x) fields) c.requires in
    let w = given_first (whole_at s (InLocal x)) (value_inside fields) v.0 v.1 in
    let passed : c.stays_low.result ≡ true = search rules in
    let low : is_low (put_at fields meant.Null w.0) ≡ true =
    sym (c.stays_low.ensures w.0 w.1 meant.Null refl) ∙ passed in
    let t = local_goes_through s x fields meant.Null w.0 w.1 low in
    let b = whole_bound one_name (option_map shown run.result) run.env x w.0 w.1 in
    let value : shown c.take_in_local.result ≡ v.0 =
    c.take_in_local.ensures.value b.0 b.1 b.2
    ∙ ap (λ (u : meant.Val). given (value_inside fields u) meant.Null (λ y. y)) b.3
    ∙ ap (λ (o : Option meant.Val). given o meant.Null (λ y. y)) w.2 in
    ap (λ (o : Option meant.Val). there o >>= λ y. write_in s (InLocal x) fields meant.Null >>= λ z. Fine (y, z)) v.1
    ∙ ap (λ (o : Outcome State). o >>= λ (z : State). Fine (v.0, z)) t.1
    ∙ ap (λ (y : meant.Val). Fine (y, t.0)) (sym value)
    ∙ ap (λ (z : State). Fine (shown c.take_in_local.result, z))
    (sym (c.take_in_local.ensures.meant one_name (option_map shown run.result) t.0 t.1))
