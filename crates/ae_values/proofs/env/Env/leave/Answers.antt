use Rattle.std.proofs.Common.{◌≡◌, List, drop, length, true, ap, sym, arith, subst}
use Rattle.ae_values.specs.declared.env.Bind.{Bind}
use Rattle.ae_values.specs.Binding.{bound_measured, bound_once, binds_measured}
use Rattle.ae_values.proofs.PutLemmas.{pass_before}
use Rattle.ae_values.proofs.env.Env.leave.Goals as goal

pub invariant_of-self : goal.invariant_of-self
invariant_of-self c =
    let e = c.args.self.now in
    record {
      within = omega (arith, c.unbind.new.binds.ok.0, ap length c.unbind.ensures, c.requires.within);
      once = subst (λ (bs : List Bind). bound_once (drop c.args.base bs) ≡ true) (sym c.unbind.ensures) c.requires.once;
      measured = subst (λ (bs : List Bind). binds_measured bs ≡ true) (sym c.unbind.ensures)
          (pass_before (λ (b : Bind). bound_measured b.bound) e.binds.items e.base e.measured);
    }
