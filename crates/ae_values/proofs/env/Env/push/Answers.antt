use Rattle.std.proofs.Common.{◌≡◌, ◌≤◌, List, drop, length, true, ap, sym, ◌∙◌, arith, subst}
use Rattle.ae_values.specs.declared.env.Bind.{Bind}
use Rattle.ae_values.specs.Binding.{bound_in, bound_measured, bound_once, binds_measured}
use Rattle.ae_values.proofs.ValueLemmas.{pass_besides}
use Rattle.ae_values.proofs.BindLemmas.{names_besides, once_added}
use Rattle.ae_values.proofs.env.Env.push.Goals.{in-Ok, in-Err}
use Rattle.ae_values.proofs.env.Env.push.Goals as goal

pub invariant_of-self : goal.invariant_of-self
invariant_of-self c =
    let e = c.args.self.now in
    let n : Bind = record {
      name = c.args.name;
      declared = c.args.declared;
      bound = c.args.bound;
      before = c.hint-before.result;
    } in
    let within : e.base ≤ length e.binds.items = omega (arith, e.binds.ok.0, e.within) in
    record {
      within = omega (arith, c.in-Ok.ensures.len, e.within);
      once = subst (λ (bs : List Bind). bound_once (drop e.base bs) ≡ true) (sym c.in-Ok.ensures.items)
          (once_added e.binds.items e.base n within e.once c.requires.new);
      measured = subst (λ (bs : List Bind). binds_measured bs ≡ true) (sym c.in-Ok.ensures.items)
          (pass_besides (λ (b : Bind). bound_measured b.bound) e.binds.items n e.measured c.requires.measured);
    }

pub returns-clause-bound : goal.returns-clause-bound
returns-clause-bound c =
    let e = c.args.self.now in
    let n : Bind = record {
      name = c.args.name;
      declared = c.args.declared;
      bound = c.args.bound;
      before = c.hint-before.result;
    } in
    let within : e.base ≤ length e.binds.items = omega (arith, e.binds.ok.0, e.within) in
    elim c.match-push.branch [
      | in-Ok w ↦ rw (w.result-is, w.self-is) (ap (λ (bs : List Bind). bound_in (drop e.base bs)) w.in-Ok.ensures.items
          ∙ names_besides e.binds.items e.base n within c.requires.new)
      | in-Err w ↦ rw w.result-is tt
    ]
