-- A call, once its groups fit and as many arguments are given as there are parameters.
use Rattle.std.proofs.Common.{◌≡◌, ℕ, nat_eq, true, List, map, length}
use Rattle.std.proofs.Common.{Option, Err, sym, ap, ◌∙◌}
use Rattle.std.proofs.lemmas.Bool.{eq-eqb}
use Rattle.std.specs.Prelude.{zip, filter_map, option_map, ⊤}
use Rattle.ae_text.specs.declared.refusal.Rule.TheVariants as rule
use Rattle.ae_text.specs.declared.refusal.Deny.{Deny}
use Rattle.ae_text.specs.declared.refusal.Deny.TheVariants as deny
use Rattle.ae_tree.specs.declared.tree.NameAt.{NameAt}
use Rattle.ae_tree.specs.declared.tree.GroupNeed.{GroupNeed}
use Rattle.ae_tree.specs.declared.tree.Ty.{Ty}
use Rattle.ae_tree.specs.declared.form.Form.{Form}
use Rattle.ae_tree.specs.Form.{form}
use Rattle.ae_tree.specs.Plain.{Expression, Invocation, Code}
use Rattle.ae_rules.specs.Verdict.{Verdict, Holds, ◌>>=◌, ◌>>◌, require, in_turn}
use Rattle.ae_rules.specs.Answers.{Answers}
use Rattle.ae_rules.specs.Forms.{form_with}
use Rattle.ae_rules.specs.Types.{groups_fit}
use Rattle.ae_rules.specs.Groups.{known, wanted_need, needs_met}
use Rattle.ae_rules.specs.Context.{Context}
use Rattle.ae_rules.specs.Calls.{Callee, Called, Roots, no_roots, ParamSlot}
use Rattle.ae_rules.specs.Calls.{group_in, slots, givens, to_slot, argument_parts, after_call}
use Rattle.ae_rules.specs.Calls.{judge_callee_with}
use Rattle.ae_rules.specs.Effects.{gone_name, all_moved}
use Rattle.ae_calls.proofs.from_rules.GoneLemmas.{call_takes}

-- the slots, each with what is given to it
abbrev pub given_pairs : Code → (ℕ → ℕ) → Callee → Invocation → List (ParamSlot × Expression)
given_pairs p new m i = zip (slots p new m.method) (givens i)

abbrev call_result : (ℕ → ℕ) → Callee → Option Form
call_result new m = option_map (λ (t : Ty). form_with new (form t)) m.method.result

abbrev after_needs : Code → Context → Invocation → Callee → (ℕ → ℕ) → Verdict Called
after_needs p c i m new =
    needs_met c.group i.method.at (map (wanted_need new) m.method.needs) >>
    Holds (record { result = call_result new m; after = after_call (argument_parts c (given_pairs p new m i)) c })

-- what is left to judge
abbrev after_count : Code → Context → Invocation → Callee → (ℕ → ℕ) → Verdict Called
after_count p c i m new = in_turn (to_slot p c) (given_pairs p new m i) no_roots >>= λ roots. after_needs p c i m new

-- a call whose groups fit, and whose arguments are as many as the parameters
pub record IsCounted (c : Context) (i : Invocation) (m : Callee) (new : ℕ → ℕ) : Type 0 where
  pub value : ⊤
  pub groups : groups_fit (known c.group) (length m.method.groups) i.method.at i.groups ≡ Holds value
  pub many : nat_eq (length i.args) (length m.method.params) ≡ true
  pub renamed : new ≡ group_in m i.groups

-- from the lists that the code passes on
pub counted_from : (c : Context) (i : Invocation) (m : Callee) (new : ℕ → ℕ) (t : ⊤) (n k l : ℕ) (xs ys : List NameAt)
    → n ≡ length m.method.groups → xs ≡ i.groups → groups_fit (known c.group) n i.method.at xs ≡ Holds t
    → k ≡ length i.args → l ≡ length m.method.params → k ≡ l → ys ≡ i.groups → new ≡ group_in m ys → IsCounted c i m new
counted_from c i m new t n k l xs ys a b g d e f h j = record {
  value = t;
  groups = sym (ap (λ z. groups_fit (known c.group) z i.method.at xs) a
      ∙ ap (groups_fit (known c.group) (length m.method.groups) i.method.at) b) ∙ g;
  many = eq-eqb (length i.args) (length m.method.params) (sym d ∙ f ∙ e);
  renamed = j ∙ ap (group_in m) h;
}

counted_is : (p : Code) (c : Context) (i : Invocation) (m : Callee) (new : ℕ → ℕ) → IsCounted c i m new
    → judge_callee_with p c i m ≡ after_count p c i m new
counted_is p c i m new h =
    ap (λ (v : Verdict ⊤). v >> require (nat_eq (length i.args) (length m.method.params)) rule.ArgumentCount
    i.method.at >>
    after_count p c i m (group_in m i.groups)) h.groups
    ∙ ap (λ b. require b rule.ArgumentCount i.method.at >> after_count p c i m (group_in m i.groups)) h.many
    ∙ ap (after_count p c i m) (sym h.renamed)

-- an argument that is refused
pub argument_is_refused : {B C : Type 0} (p : Code) (c : Context) (i : Invocation) (m : Callee) (new : ℕ → ℕ)
    (view : B → Roots) (view' : C → Called) (d : Deny) → IsCounted c i m new
    → Answers (in_turn (to_slot p c) (given_pairs p new m i) no_roots) view (Err d)
    → Answers (judge_callee_with p c i m) view' (Err d)
argument_is_refused p c i m new view view' deny.Memory h e = tt
argument_is_refused p c i m new view view' (deny.Refused r) h e = counted_is p c i m new h
    ∙ ap (λ (v : Verdict Roots). v >>= λ roots. after_needs p c i m new) e

-- a need that is not met
pub need_is_refused : {B C : Type 0} (p : Code) (c : Context) (i : Invocation) (m : Callee) (new : ℕ → ℕ)
    (roots : Roots)
    (view : B → ⊤) (view' : C → Called) (d : Deny) → IsCounted c i m new
    → in_turn (to_slot p c) (given_pairs p new m i) no_roots ≡ Holds roots
    → (ns : List GroupNeed) → ns ≡ m.method.needs
    → Answers (needs_met c.group i.method.at (map (wanted_need new) ns)) view (Err d)
    → Answers (judge_callee_with p c i m) view' (Err d)
need_is_refused p c i m new roots view view' deny.Memory h e ns k f = tt
need_is_refused p c i m new roots view view' (deny.Refused r) h e ns k f = counted_is p c i m new h
    ∙ ap (λ (v : Verdict Roots). v >>= λ roots. after_needs p c i m new) e
    ∙ ap (λ (v : Verdict ⊤). v >> Holds (record {
      result = call_result new m;
      after = after_call
          (argument_parts c (given_pairs p new m i)) c;
    }))
    (ap (λ (zs : List GroupNeed). needs_met c.group i.method.at (map (wanted_need new) zs)) (sym k) ∙ f)

-- a call that holds: the names that are given for good are gone
pub call_holds : (p : Code) (c : Context) (i : Invocation) (m : Callee) (new : ℕ → ℕ) (roots : Roots) (t : ⊤)
    (gone : List ℕ) (value : Option Form) → IsCounted c i m new
    → in_turn (to_slot p c) (given_pairs p new m i) no_roots ≡ Holds roots
    → gone ≡ filter_map gone_name (given_pairs p new m i)
    → (ns : List GroupNeed) → ns ≡ m.method.needs
    → needs_met c.group i.method.at (map (wanted_need new) ns) ≡ Holds t
    → value ≡ option_map (λ (t : Ty). form_with new (form t)) m.method.result
    → judge_callee_with p c i m ≡ Holds (record { result = value; after = all_moved gone c })
call_holds p c i m new roots t gone value h e g ns k f v = counted_is p c i m new h
    ∙ ap (λ (v : Verdict Roots). v >>= λ roots. after_needs p c i m new) e
    ∙ ap (λ (v : Verdict ⊤). v >> Holds (record {
      result = call_result new m;
      after = after_call
          (argument_parts c (given_pairs p new m i)) c;
    }))
    (ap (λ (zs : List GroupNeed). needs_met c.group i.method.at (map (wanted_need new) zs)) (sym k) ∙ f)
    ∙ ap (λ (d : Context). called (call_result new m) d) (call_takes p c (given_pairs p new m i) roots e
    ∙ ap (λ xs. all_moved xs c) (sym g))
    ∙ ap (λ (o : Option Form). called o (all_moved gone c)) (sym v)
  where
    called : Option Form → Context → Verdict Called
    called o d = Holds (record { result = o; after = d })
