-- What follows where a program is well shaped: each slot of a call is given, and comparisons of what is held speak of each local.
use Rattle.std.proofs.Common.{◌≡◌, refl, sym, ap, ◌∙◌, subst, ℕ, suc, nat_eq, Bool, true, false, ◌&&◌, ◌||◌, not}
use Rattle.std.proofs.Common.{if◌then◌else◌, List, [], ◌∷◌, map, length, Option, None, Some}
use Rattle.std.specs.Prelude.{is_some, option_map, find, filter_map}
use Rattle.std.specs.List.{All}
use Rattle.std.proofs.lemmas.Bool.{eqb-true, eq-eqb}
use Rattle.std.proofs.lemmas.List.{length-map}
use Rattle.std.proofs.lemmas.List.Elements.{All-nil, All-cons, All-head, All-tail}
use Rattle.ae_text.specs.declared.refusal.Rule.TheVariants as rule
use Rattle.ae_tree.specs.declared.tree.NameAt.{NameAt}
use Rattle.ae_tree.specs.declared.tree.Path.{Path}
use Rattle.ae_tree.specs.declared.tree.Me.{Me}
use Rattle.ae_tree.specs.declared.tree.Param.{Param}
use Rattle.ae_tree.specs.declared.tree.Class.{Class}
use Rattle.ae_tree.specs.declared.tree.Decl.{Decl}
use Rattle.ae_tree.specs.declared.tree.Decl.TheVariants as decl
use Rattle.ae_tree.specs.declared.form.Kind.{Kind}
use Rattle.ae_tree.specs.declared.form.Kind.TheVariants as kind
use Rattle.ae_tree.specs.declared.form.Form.{Form}
use Rattle.ae_tree.specs.declared.form.Form.TheVariants as f
use Rattle.ae_tree.specs.Form.{bare_names}
use Rattle.ae_tree.specs.WellShaped.{WellShaped, IsMethodOf, DeclaresTop}
use Rattle.ae_tree.specs.Plain.{Expression, Read, Definition, Code}
use Rattle.ae_rules.specs.declared.held.Held.{Held}
use Rattle.ae_rules.specs.declared.held.Held.TheVariants as held
use Rattle.ae_rules.specs.Verdict.{Holds, require, given}
use Rattle.ae_rules.specs.Forms.{is_object}
use Rattle.ae_rules.specs.Lookups.{class_at, method_at, is_called, class_number, class_of, groups_of, method_number}
use Rattle.ae_rules.specs.Lookups.{top_in, tops, top_number}
use Rattle.ae_rules.specs.Types.{groups_fit}
use Rattle.ae_rules.specs.Groups.{known}
use Rattle.ae_rules.specs.Context.{Context, same_held, held_in}
use Rattle.ae_rules.specs.Walks.{walk}
use Rattle.ae_rules.specs.Calls.{Callee, callee_in, callee_of, top_callee, judge_callee, me_slot, param_slot, if_some}
use Rattle.ae_rules.specs.BlockLaws.{ComparisonsAreExact}
use Rattle.ae_rules.specs.Laws.{EverySlotIsGiven}
use Rattle.ae_rules.proofs.SeenLemmas.{found_is, required}
use Rattle.ae_rules.proofs.PathLemmas.{first_holds, called_by_number}
use Rattle.ae_rules.proofs.PredLemmas.{all_at, all_of}
use Rattle.ae_rules.proofs.BelowLemmas.{found_has, local_below}

-- ---- the receiver of a method

-- what is found in a list is one of it
find_has : {A : Type 0} (P : A → Type 0) (test : A → Bool) (xs : List A) (x : A) → All P xs → find test xs ≡ Some x
    → P x
find_has P test [] x a e = absurd (cc)
find_has P test (y ∷ ys) x a e = by_test (λ h. find_has P test ys x (All-tail P y ys a) h) (test y) e
  where
    by_test : (find test ys ≡ Some x → P x) → (b : Bool) → (if b then Some y else find test ys) ≡ Some x → P x
    by_test ih true h = subst P (same_thing h) (All-head P y ys a)
      where
        same_thing : Some y ≡ Some x → y ≡ x
        same_thing h = cc
    by_test ih false h = ih h

-- the methods at the top stand in no class
tops_of_none : (p : Code) (ds : List Decl) → All (DeclaresTop p) ds → All (IsMethodOf p None) (filter_map top_in ds)
tops_of_none p [] a = All-nil (IsMethodOf p None)
tops_of_none p (decl.Class n ∷ ds) a = tops_of_none p ds (All-tail (DeclaresTop p) (decl.Class n) ds a)
tops_of_none p (decl.Method n ∷ ds) a =
    All-cons (IsMethodOf p None) n (filter_map top_in ds) (All-head (DeclaresTop p) (decl.Method n) ds a)
    (tops_of_none p ds (All-tail (DeclaresTop p) (decl.Method n) ds a))

-- a method has a receiver exactly where it is of a class
with_receiver : (p : Code) → WellShaped p → (class : Option ℕ) (n : ℕ) (m : Definition) → IsMethodOf p class n
    → method_at p n ≡ Some m → is_some m.me ≡ is_some class
with_receiver p w class n m o e =
    let own : o.method ≡ m = same_method (sym o.found ∙ e) in
    found_has (λ (x : Definition). is_some x.me ≡ is_some x.class) p.methods n m w.receivers e
    ∙ ap is_some (sym (ap (λ (x : Definition). x.class) own) ∙ o.is_of)
  where
    same_method : Some o.method ≡ Some m → o.method ≡ m
    same_method h = cc

class_has_number : (p : Code) (o : Option ℕ) (c : Class) → given o None (class_at p) ≡ Some c
    → (n : ℕ) × (class_at p n ≡ Some c)
class_has_number p None c e = absurd (cc)
class_has_number p (Some n) c e = (n, e)

member_receiver : (p : Code) → WellShaped p → (l : Kind) (x : ℕ) (o : Option Class) (k : Callee)
    → ((c : Class) → o ≡ Some c → (n : ℕ) × (class_at p n ≡ Some c))
    → given o None (callee_in p l x) ≡ Some k → is_some k.method.me ≡ true
member_receiver p w l x None k h e = absurd (cc)
member_receiver p w l x (Some c) k h e =
    let n = h c refl in
    let r = called_by_number p (bare_names c.groups) (groups_of l) (method_number p c x) k e
    in with_receiver p w (Some n.0) r.0 k.method
    (find_has (IsMethodOf p (Some n.0)) (is_called p x) c.methods r.0 (w.members n.0 c n.1) r.1) r.2

kind_receiver : (p : Code) → WellShaped p → (l : Kind) (x : ℕ) (k : Callee)
    → given (class_of p l) None (callee_in p l x) ≡ Some k → is_some k.method.me ≡ true
kind_receiver p w kind.Ints x k e = absurd (cc)
kind_receiver p w (kind.Class y gs) x k e = member_receiver p w (kind.Class y gs) x (class_of p (kind.Class y gs)) k
    (λ c q. class_has_number p (class_number p y) c q) e

form_receiver : (p : Code) → WellShaped p → (t : Form) (x : ℕ) (k : Callee) → callee_of p t x ≡ Some k
    → is_some k.method.me ≡ true
form_receiver p w f.Int x k e = absurd (cc)
form_receiver p w f.Bool x k e = absurd (cc)
form_receiver p w (f.Object q l) x k e = kind_receiver p w l x k e

-- the method that is called has a receiver exactly where the call has one
pub callee_receiver : (p : Code) → WellShaped p → (c : Context) (on : Option Path) (x : NameAt) (k : Callee)
    → judge_callee p c on x ≡ Holds k → is_some k.method.me ≡ is_some on
callee_receiver p w c None x k e =
    let r = called_by_number p [] [] (top_number p x.name) k
    (found_is (top_callee p x.name) rule.UnknownMethod x.at k e) in
    with_receiver p w None r.0 k.method
    (find_has (IsMethodOf p None) (is_called p x.name) (tops p) r.0 (tops_of_none p p.decls w.tops) r.1) r.2
callee_receiver p w c (Some path) x k e =
    let v = first_holds (walk p c path) _ k e in
    let t = first_holds (require (is_object v.0.form) rule.TypeMismatch path.root.at) _ k v.2
    in form_receiver p w v.0.form x.name k (found_is (callee_of p v.0.form x.name) rule.UnknownMethod x.at k t.2)

as_many : (p : Code) (new : ℕ → ℕ) (m : Definition) (o : Option Me) (on : Option Path) (xs : List Param)
    (es : List Expression) → is_some o ≡ is_some on → length es ≡ length xs
    → length (if_some (option_map (me_slot p new m) o) (map (param_slot new) xs))
    ≡ length (if_some (option_map Read on) es)
as_many p new m None None xs es h e = length-map xs (param_slot new) ∙ sym e
as_many p new m None (Some path) xs es h e = absurd (cc)
as_many p new m (Some me) None xs es h e = absurd (cc)
as_many p new m (Some me) (Some path) xs es h e = ap suc (length-map xs (param_slot new) ∙ sym e)

pub every_slot_is_given : EverySlotIsGiven
every_slot_is_given p w c i k d e h new =
    let g = first_holds (groups_fit (known c.group) (length k.method.groups) i.method.at i.groups) _ d h in
    let n = first_holds (require (nat_eq (length i.args) (length k.method.params)) rule.ArgumentCount i.method.at) _ d
    g.2
    in as_many p new k.method k.method.me i.on k.method.params i.args (callee_receiver p w c i.on i.method k e)
    (eqb-true (length i.args) (length k.method.params)
    (required (nat_eq (length i.args) (length k.method.params)) rule.ArgumentCount i.method.at n.0 n.1))

-- ---- what is held, compared

pub same_held_is : (h k : Held) → same_held h k ≡ true → h ≡ k
same_held_is held.Unique held.Unique e = refl
same_held_is (held.Split m) (held.Split n) e = ap held.Split (eqb-true m n e)
same_held_is held.Immutable held.Immutable e = refl
same_held_is held.Lent held.Lent e = refl
same_held_is (held.Shared g) (held.Shared h) e = ap held.Shared (eqb-true g h e)
same_held_is (held.Inner g) (held.Inner h) e = ap held.Inner (eqb-true g h e)
same_held_is held.None held.None e = refl
same_held_is _ _ e = absurd (cc)

pub held_itself : (h : Held) → same_held h h ≡ true
held_itself held.Unique = refl
held_itself (held.Split n) = eq-eqb n n refl
held_itself held.Immutable = refl
held_itself held.Lent = refl
held_itself (held.Shared g) = eq-eqb g g refl
held_itself (held.Inner g) = eq-eqb g g refl
held_itself held.None = refl

pub is_same_held : (h k : Held) → h ≡ k → same_held h k ≡ true
is_same_held h k e = subst (λ (z : Held). same_held h z ≡ true) e (held_itself h)

or_holds : (a b : Bool) → (not a || b) ≡ true → a ≡ true → b ≡ true
or_holds true b e h = e
or_holds false b e h = absurd (cc)

if_holds : (a b : Bool) → (a ≡ true → b ≡ true) → (not a || b) ≡ true
if_holds true b h = h refl
if_holds false b h = refl

not_both : (a b : Bool) → not (a && b) ≡ true → a ≡ true → b ≡ true → ⊥
not_both true true e h k = cc
not_both true false e h k = cc
not_both false b e h k = cc

never_both : (a b : Bool) → (a ≡ true → b ≡ true → ⊥) → not (a && b) ≡ true
never_both true true h = absurd (h refl refl)
never_both true false h = refl
never_both false b h = refl

pub comparisons_are_exact : ComparisonsAreExact
comparisons_are_exact p c v =
    let n : ℕ = length p.names in (
      λ d e. (
        λ h x s. same_held_is (held_in d x) (held_in e x)
            (or_holds (is_some (c.local x)) (same_held (held_in d x) (held_in e x))
            (all_at n (λ y. not (is_some (c.local y)) || same_held (held_in d y) (held_in e y)) x h
            (local_below n c v x s)) s),
        λ h. all_of n (λ y. not (is_some (c.local y)) || same_held (held_in d y) (held_in e y))
            (λ x l. if_holds (is_some (c.local x)) (same_held (held_in d x) (held_in e x))
            (λ s. is_same_held (held_in d x) (held_in e x) (h x s))),
      ),
      λ d g. (
        λ h x s k. not_both (is_some (c.local x)) (same_held (held.Shared g) (held_in d x))
            (all_at n (λ y. not (is_some (c.local y) && same_held (held.Shared g) (held_in d y))) x h
            (local_below n c v x s)) s (is_same_held (held.Shared g) (held_in d x) (sym k)),
        λ h. all_of n (λ y. not (is_some (c.local y) && same_held (held.Shared g) (held_in d y)))
            (λ x l. never_both (is_some (c.local x)) (same_held (held.Shared g) (held_in d x))
            (λ s k. h x s (sym (same_held_is (held.Shared g) (held_in d x) k)))),
      ),
    )
