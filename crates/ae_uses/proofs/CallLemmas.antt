-- What a call uses, part by part.
use Rattle.std.proofs.Common.{◌≡◌, ℕ, List, [], map, Option, None, Some, refl, ap, ◌∙◌, subst}
use Rattle.std.specs.Prelude.{zip, is_some, option_map}
use Rattle.ae_tree.specs.Plain.{Expression, Read, Invocation, Code}
use Rattle.ae_rules.specs.declared.uses.Mode.{Mode}
use Rattle.ae_rules.specs.Edges.{Uses}
use Rattle.ae_rules.specs.Context.{Context}
use Rattle.ae_rules.specs.Groups.{wanted_need}
use Rattle.ae_rules.specs.Calls.{Callee, ParamSlot, if_some, me_slot, param_slot, slots, givens, group_in}
use Rattle.ae_rules.specs.Uses.{stronger, nothing, ◌∪◌, of_each, need_uses, callee_uses}
use Rattle.ae_uses.specs.declared.used.Used.{Used}
use Rattle.ae_uses.specs.Used.{Adds, used_as}
use Rattle.ae_uses.specs.Calls.{slot_uses, receiver_uses}
use Rattle.ae_uses.proofs.UsedLemmas.{none_is_no_stronger, adds_one_then_other}

nothing_beside : (u v : Used) (a : Uses) → Adds u (a ∪ nothing) v → Adds u a v
nothing_beside u v a h = record {
  at = λ r. h.at r ∙ ap (λ (o : Option Mode). stronger (used_as u r) o) (none_is_no_stronger (a r));
}

-- the receiver and then the arguments
receiver_then_rest : (h : ParamSlot × Expression → Uses) (me : Option ParamSlot) (on : Option Expression)
    (ps : List ParamSlot) (xs : List Expression) (u v w : Used) → is_some me ≡ is_some on
    → Adds u (of_each h (zip (if_some me []) (if_some on []))) v → Adds v (of_each h (zip ps xs)) w
    → Adds u (of_each h (zip (if_some me ps) (if_some on xs))) w
receiver_then_rest h None None ps xs u v w e f g = adds_one_then_other u v w nothing (of_each h (zip ps xs)) f g
receiver_then_rest h None (Some x) ps xs u v w e f g = absurd (cc)
receiver_then_rest h (Some m) None ps xs u v w e f g = absurd (cc)
receiver_then_rest h (Some m) (Some x) ps xs u v w e f g =
    adds_one_then_other u v w (h (m, x)) (of_each h (zip ps xs)) (nothing_beside u v (h (m, x)) f) g

as_much_there : {A B C D : Type 0} (f : A → C) (g : B → D) (o : Option A) (q : Option B) → is_some o ≡ is_some q
    → is_some (option_map f o) ≡ is_some (option_map g q)
as_much_there f g None None e = refl
as_much_there f g None (Some y) e = e
as_much_there f g (Some x) None e = e
as_much_there f g (Some x) (Some y) e = refl

-- the receiver, the arguments and the needs of a call
pub callee_adds_three : (p : Code) (c : Context) (i : Invocation) (k : Callee) (new : ℕ → ℕ) (u v w z : Used)
    → new ≡ group_in k i.groups → is_some k.method.me ≡ is_some i.on
    → Adds u (receiver_uses p c new k.method i.on) v
    → Adds v (of_each (slot_uses p c) (zip (map (param_slot new) k.method.params) i.args)) w
    → Adds w (of_each need_uses (map (wanted_need new) k.method.needs)) z → Adds u (callee_uses p c i k) z
callee_adds_three p c i k new u v w z e r f g h =
    subst (λ (n : ℕ → ℕ). Adds u (of_each (slot_uses p c) (zip (slots p n k.method) (givens i))
    ∪ of_each need_uses (map (wanted_need n) k.method.needs)) z) e
    (adds_one_then_other u w z (of_each (slot_uses p c) (zip (slots p new k.method) (givens i)))
    (of_each need_uses (map (wanted_need new) k.method.needs))
    (receiver_then_rest (slot_uses p c) (option_map (me_slot p new k.method) k.method.me) (option_map Read i.on)
    (map (param_slot new) k.method.params) i.args u v w
    (as_much_there (me_slot p new k.method) Read k.method.me i.on r) f g) h)
