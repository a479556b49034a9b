use Rattle.std.proofs.Common.{◌≡◌, Some, ap, ◌∙◌, slice_get, arith}
use Rattle.std.specs.Prelude.{vec_len}
use Rattle.std.proofs.lemmas.List.{take-set-le}
use Rattle.std.proofs.lemmas.Option.{slice_get_read}
use Rattle.ae_semantics.specs.Places.{with}
use Rattle.ae_values.specs.declared.env.Bind.{Bind}
use Rattle.ae_values.specs.declared.env.Bound.{Bound}
use Rattle.ae_values.specs.Binding.{bound_measured}
use Rattle.ae_values.specs.Environments.{bound_under}
use Rattle.ae_values.proofs.ValueLemmas.{pass_with_new}
use Rattle.ae_values.proofs.BindLemmas.{bound_at_found, names_exchanged, once_exchanged, heads_exchanged, named_with}
use Rattle.ae_values.proofs.env.Env.exchange.Goals as goal

pub invariant_of-self : goal.invariant_of-self
invariant_of-self c =
    let e = c.args.self.now in
    let old = c.index_mut.result.now in
    let found : slice_get e.binds.items c.args.at ≡ Some old =
    slice_get_read e.binds.items (vec_len e.binds) c.args.at old (omega (arith, e.binds.ok.0)) c.requires.within
    c.index_mut.ensures.value in
    record {
      within = e.within;
      once = once_exchanged e.binds.items e.base c.args.at old c.replace.new.dest e.once c.requires.running found;
      measured = pass_with_new (λ (b : Bind). bound_measured b.bound) e.binds.items c.args.at
          (record old { bound = c.replace.new.dest }) e.measured
          (ap bound_measured c.replace.ensures.after ∙ c.requires.measured);
    }

pub returns-clause-was : goal.returns-clause-was
returns-clause-was c =
    let e = c.args.self.now in
    let old = c.index_mut.result.now in
    let found : slice_get e.binds.items c.args.at ≡ Some old =
    slice_get_read e.binds.items (vec_len e.binds) c.args.at old (omega (arith, e.binds.ok.0)) c.requires.within
    c.index_mut.ensures.value in
    λ x named. ap Some c.replace.ensures.value
    ∙ bound_at_found e.binds.items e.base c.args.at x old e.once c.requires.running named found

pub returns-clause-bound : goal.returns-clause-bound
returns-clause-bound c =
    let e = c.args.self.now in
    let old = c.index_mut.result.now in
    let found : slice_get e.binds.items c.args.at ≡ Some old =
    slice_get_read e.binds.items (vec_len e.binds) c.args.at old (omega (arith, e.binds.ok.0)) c.requires.within
    c.index_mut.ensures.value in
    λ x named. names_exchanged e.binds.items e.base c.args.at x old c.replace.new.dest e.once c.requires.running named
    found
    ∙ ap (λ (b : Bound). with x (Some b) (bound_under e)) c.replace.ensures.after

pub returns-clause-stays : goal.returns-clause-stays
returns-clause-stays c =
    let e = c.args.self.now in
    let old = c.index_mut.result.now in
    let found : slice_get e.binds.items c.args.at ≡ Some old =
    slice_get_read e.binds.items (vec_len e.binds) c.args.at old (omega (arith, e.binds.ok.0)) c.requires.within
    c.index_mut.ensures.value in
    record {
      heads_stay = heads_exchanged e.binds.items e.base c.args.at old c.replace.new.dest c.requires.running found;
      waiting_stays = take-set-le e.base e.binds.items c.args.at (record old { bound = c.replace.new.dest })
          c.requires.running;
    }

pub returns-clause-named : goal.returns-clause-named
returns-clause-named c =
    let e = c.args.self.now in
    let old = c.index_mut.result.now in
    let found : slice_get e.binds.items c.args.at ≡ Some old =
    slice_get_read e.binds.items (vec_len e.binds) c.args.at old (omega (arith, e.binds.ok.0)) c.requires.within
    c.index_mut.ensures.value in
    λ x named. named_with e.binds.items c.args.at x old c.replace.new.dest found named
