use Rattle.std.proofs.Common.{◌≡◌, ◌+◌, ℕ, List, drop, take, length, true, ap, sym, ◌∙◌, arith, subst}
use Rattle.std.proofs.lemmas.List.{drop-take, take-map, take_all, length-take, length-drop}
use Rattle.ae_tree.specs.declared.form.Perm.{Perm}
use Rattle.ae_values.specs.declared.env.Bind.{Bind}
use Rattle.ae_values.specs.Binding.{bound_in, bound_measured, bound_once, binds_measured, heads}
use Rattle.ae_values.proofs.PutLemmas.{pass_before}
use Rattle.ae_values.proofs.BindLemmas.{names_kept, once_kept}
use Rattle.ae_values.specs.Shapes.{NameShape, name_shape, shapes}
use Rattle.ae_values.proofs.env.Env.forget.Goals as goal

pub invariant_of-self : goal.invariant_of-self
invariant_of-self c =
    let e = c.args.self.now in
    let left = ap (drop e.base) c.unbind.ensures ∙ drop-take e.base c.args.mark e.binds.items in
    record {
      within = omega (
        arith,
        c.unbind.new.binds.ok.0,
        e.binds.ok.0,
        ap length c.unbind.ensures,
        length-take (e.base + c.args.mark) e.binds.items,
        length-drop e.base e.binds.items,
        c.mark.ensures,
      );
      once = subst (λ (bs : List Bind). bound_once bs ≡ true) (sym left)
          (once_kept (drop e.base e.binds.items) c.args.mark e.once);
      measured = subst (λ (bs : List Bind). binds_measured bs ≡ true) (sym c.unbind.ensures)
          (pass_before (λ (b : Bind). bound_measured b.bound) e.binds.items (e.base + c.args.mark) e.measured);
    }

pub returns-then-mark-clause-running : goal.returns-then-mark-clause-running
returns-then-mark-clause-running c =
    let e = c.args.self.now in
    ap (drop e.base) c.unbind.ensures ∙ drop-take e.base c.args.mark e.binds.items

pub returns-then-mark-clause-heads : goal.returns-then-mark-clause-heads
returns-then-mark-clause-heads c =
    let e = c.args.self.now in
    ap (λ (bs : List Bind). heads (drop e.base bs)) c.unbind.ensures
    ∙ ap heads (drop-take e.base c.args.mark e.binds.items)
    ∙ sym (take-map {Y = ℕ × Perm} (λ (b : Bind). (b.name, b.declared)) c.args.mark (drop e.base e.binds.items))

pub returns-then-mark-clause-bound : goal.returns-then-mark-clause-bound
returns-then-mark-clause-bound c =
    let e = c.args.self.now in
    λ x. ap (λ (bs : List Bind). bound_in (drop e.base bs) x) c.unbind.ensures
    ∙ ap (λ (bs : List Bind). bound_in bs x) (drop-take e.base c.args.mark e.binds.items)
    ∙ names_kept (drop e.base e.binds.items) c.args.mark x

pub returns-else-mark-clause-bound : goal.returns-else-mark-clause-bound
returns-else-mark-clause-bound c =
    let e = c.args.self.now in
    let all : take c.args.mark (drop e.base e.binds.items) ≡ drop e.base e.binds.items =
    take_all c.args.mark (drop e.base e.binds.items) (omega (arith, c.mark.ensures, c.if-mark.false)) in
    λ x. ap (λ (bs : List Bind). bound_in bs x) (sym all) ∙ names_kept (drop e.base e.binds.items) c.args.mark x

pub returns-then-mark-clause-shapes : goal.returns-then-mark-clause-shapes
returns-then-mark-clause-shapes c =
    let e = c.args.self.now in
    ap (λ (bs : List Bind). shapes (drop e.base bs)) c.unbind.ensures
    ∙ ap shapes (drop-take e.base c.args.mark e.binds.items)
    ∙ sym (take-map {Y = ℕ × NameShape} (λ (b : Bind). (b.name, name_shape b.declared b.bound)) c.args.mark
    (drop e.base e.binds.items))
