-- States that agree, and that still do where both change alike.
use Rattle.std.proofs.Common.{◌≡◌, ◌⊎◌, inl, inr, refl, sym, ap, ◌∙◌, subst, ℕ, nat_eq, Bool, true, false}
use Rattle.std.proofs.Common.{if◌then◌else◌, List, [], ◌∷◌, Option, None, Some}
use Rattle.std.specs.Prelude.{is_some}
use Rattle.ae_rules.specs.declared.uses.Resource.{Resource}
use Rattle.ae_rules.specs.declared.uses.Resource.TheVariants as resource
use Rattle.ae_rules.specs.declared.uses.Mode.{Mode}
use Rattle.ae_rules.specs.Edges.{Uses}
use Rattle.ae_rules.specs.Verdict.{Verdict, Holds}
use Rattle.ae_rules.specs.Context.{Context}
use Rattle.ae_rules.specs.Uses.{stronger, ◌∪◌, of_judged, of_found, is_seen}
use Rattle.ae_rules.specs.Uses.{use_alone}
use Rattle.ae_semantics.specs.Places.{Group, Here, Bound, State, with_bound, other_name, name_of, group_of}
use Rattle.ae_semantics.specs.Places.{with_store}
use Rattle.ae_semantics.specs.Values.{Val, Store}
use Rattle.ae_semantics.specs.Calls.{without_moved}
use Rattle.ae_needs.specs.Agree.{Agree, Covers}
use Rattle.ae_needs.proofs.from_text.Basics.{number_is_itself}
use Rattle.ae_needs.proofs.from_semantics.Walked.{SameOn}

-- ---- what is in a set

-- all that is used is in the set
abbrev pub AllIn : (Resource → Bool) → Uses → Type 0
AllIn on u = (r : Resource) → is_some (u r) ≡ true → on r ≡ true

-- What is used first is used by both.
pub stronger_left : (o q : Option Mode) → is_some o ≡ true → is_some (stronger o q) ≡ true
stronger_left None q e = absurd (cc e)
stronger_left (Some m) None e = refl
stronger_left (Some m) (Some n) e = refl

-- What is used second is used by both.
pub stronger_right : (o q : Option Mode) → is_some q ≡ true → is_some (stronger o q) ≡ true
stronger_right None q e = e
stronger_right (Some m) None e = refl
stronger_right (Some m) (Some n) e = refl

-- Of two uses the first is in the set.
pub in_left : (on : Resource → Bool) (u v : Uses) → AllIn on (u ∪ v) → AllIn on u
in_left on u v h r e = h r (stronger_left (u r) (v r) e)

-- Of two uses the second is in the set.
pub in_right : (on : Resource → Bool) (u v : Uses) → AllIn on (u ∪ v) → AllIn on v
in_right on u v h r e = h r (stronger_right (u r) (v r) e)

-- The uses of what a verdict gives are in the set.
pub in_held : {A : Type 0} (on : Resource → Bool) (v : Verdict A) (u : A → Uses) (x : A) → v ≡ Holds x
    → AllIn on (of_judged v u) → AllIn on (u x)
in_held on v u x e h = subst (λ (w : Verdict _). AllIn on (of_judged w u)) e h

-- The uses of what is found are in the set.
pub in_there : {A : Type 0} (on : Resource → Bool) (o : Option A) (u : A → Uses) (x : A) → o ≡ Some x
    → AllIn on (of_found o u) → AllIn on (u x)
in_there on o u x e h = subst (λ (w : Option _). AllIn on (of_found w u)) e h

some_if : (b : Bool) (m : Mode) → b ≡ true → is_some (if b then Some m else None) ≡ true
some_if true m e = refl
some_if false m e = absurd (cc e)

-- A local that alone is used is in the set.
pub in_local : (on : Resource → Bool) (m : Mode) (x : ℕ) → AllIn on (use_alone m (resource.Local x))
    → on (resource.Local x) ≡ true
in_local on m x h = h (resource.Local x) (some_if (nat_eq x x) m (number_is_itself x))

-- A group that alone is used is in the set.
pub in_group : (on : Resource → Bool) (m : Mode) (g : ℕ) → AllIn on (use_alone m (resource.Group g))
    → on (resource.Group g) ≡ true
in_group on m g h = h (resource.Group g) (some_if (nat_eq g g) m (number_is_itself g))

-- ---- what is visible

-- What is used, and only of what is visible, is in the set.
pub covered : (on : Resource → Bool) (c : Context) (u : Uses)
    → ((r : Resource) → is_some (u r) ≡ true → is_seen c r ≡ true) → Covers on c u → AllIn on u
covered on c u h k r e = k r (h r e) e

-- ---- states

-- Where states agree on more they agree on less.
pub agree_on : (on less : Resource → Bool) (s t : State) → ((r : Resource) → less r ≡ true → on r ≡ true)
    → Agree on s t → Agree less s t
agree_on on less s t h a = record {
  locals = λ x e. a.locals x (h (resource.Local x) e);
  names = λ g e. a.names g (h (resource.Group g) e);
  groups = λ g e. a.groups g (h (resource.Group g) e);
  result = a.result;
}

-- States that agree on all uses are the same where they are.
pub same_on : (on : Resource → Bool) (u : Uses) (s t : State) → AllIn on u → Agree on s t → SameOn u s t
same_on on u s t h a = record {
  locals = λ x e. a.locals x (h (resource.Local x) e);
  groups = λ g e. a.groups g (h (resource.Group g) e);
}

one_bound : (x y : ℕ) (b p q : Option Bound) → (nat_eq x y ≡ false → p ≡ q)
    → (if nat_eq x y then b else p) ≡ (if nat_eq x y then b else q)
one_bound x y b p q h = by_test (nat_eq x y) h
  where
    by_test : (d : Bool) → (d ≡ false → p ≡ q) → (if d then b else p) ≡ (if d then b else q)
    by_test true k = refl
    by_test false k = k refl

-- Where a local is another in both, they agree on it too.
pub bound_agrees : (on more : Resource → Bool) (s t : State) (x : ℕ) (b : Option Bound)
    → ((r : Resource) → more r ≡ true → (on r ≡ true) ⊎ (r ≡ resource.Local x)) → Agree on s t
    → Agree more (with_bound x b s) (with_bound x b t)
bound_agrees on more s t x b h a = record {
  locals = λ y e. one_bound x y b (s.locals y) (t.locals y)
      (λ n. elim (h (resource.Local y) e) [ inl i ↦ a.locals y i | inr i ↦ absurd (other y n i) ]);
  names = λ g e. a.names g (of_group g (h (resource.Group g) e));
  groups = λ g e. a.groups g (of_group g (h (resource.Group g) e));
  result = a.result;
}
  where
    name_in : Resource → ℕ
    name_in (resource.Local y) = y
    name_in (resource.Group g) = g

    other : (y : ℕ) → nat_eq x y ≡ false → resource.Local y ≡ resource.Local x → ⊥
    other y n i =
        let same : y ≡ x = ap name_in i in
        let is : nat_eq x y ≡ true = ap (nat_eq x) same ∙ number_is_itself x in absurd (cc (n, is))

    of_group : (g : ℕ) → (on (resource.Group g) ≡ true) ⊎ (resource.Group g ≡ resource.Local x)
        → on (resource.Group g) ≡ true
    of_group g (inl i) = i
    of_group g (inr i) = absurd (cc i)

-- Where a local is another in both, they agree as before.
pub bound_keeps : (on : Resource → Bool) (s t : State) (x : ℕ) (b : Option Bound) → Agree on s t
    → Agree on (with_bound x b s) (with_bound x b t)
bound_keeps on s t x b a = bound_agrees on on s t x b (λ r e. inl e) a

-- Where the same names have no value any more, they agree as before.
pub moved_keeps : (on : Resource → Bool) (xs : List ℕ) (s t : State) → Agree on s t
    → Agree on (without_moved xs s) (without_moved xs t)
moved_keeps on [] s t a = a
moved_keeps on (x ∷ xs) s t a = moved_keeps on xs (with_bound x None s) (with_bound x None t)
    (bound_keeps on s t x None a)

-- ---- groups

-- the name of a group is as it was, or it is its own now
name_put : (n : ℕ) (c : Option Group) (h : ℕ) (p q : Option Group) → other_name h p ≡ other_name h q
    → other_name h (if nat_eq n h then c else p) ≡ other_name h (if nat_eq n h then c else q)
name_put n c h p q e = by_test (nat_eq n h)
  where
    by_test : (d : Bool) → other_name h (if d then c else p) ≡ other_name h (if d then c else q)
    by_test true = refl
    by_test false = e

-- what there is of a group, where this is put under that name, and its own name is that or is not
abbrev found_after : ℕ → Option Group → State → ℕ → Bool → Option Group
found_after n c u h d =
    let k : ℕ = other_name h (if d then c else u.groups h) in
    if nat_eq n k then c else u.groups k

found_same : (n : ℕ) (c : Option Group) (s t : State) (h : ℕ) (d : Bool) → nat_eq n h ≡ d → other_name h c ≡ h
    → name_of s h ≡ name_of t h → group_of s h ≡ group_of t h → found_after n c s h d ≡ found_after n c t h d
found_same n c s t h true e own names groups = at_self s ∙ sym (at_self t)
  where
    at_self : (u : State) → found_after n c u h true ≡ c
    at_self u = ap (λ (k : ℕ). if nat_eq n k then c else u.groups k) own
        ∙ ap (λ (b : Bool). if b then c else u.groups h) e
found_same n c s t h false e own names groups = ap (λ (k : ℕ). if nat_eq n k then c else group_of s h) names
    ∙ ap (λ (o : Option Group). if nat_eq n (name_of t h) then c else o) groups

-- Where what there is of a group of one name is another in both, and no other name, they agree as before.
pub store_keeps : (on : Resource → Bool) (s t : State) (g : ℕ) (c : Option Group) → name_of s g ≡ name_of t g
    → ((h : ℕ) → other_name h c ≡ h) → Agree on s t → Agree on (with_store g c s) (with_store g c t)
store_keeps on s t g c i own a = record {
  locals = a.locals;
  names = λ h e. name_put (name_of s g) c h (s.groups h) (t.groups h) (a.names h e)
      ∙ ap (λ (n : ℕ). other_name h (if nat_eq n h then c else t.groups h)) i;
  groups = λ h e.
      found_same (name_of s g) c s t h (nat_eq (name_of s g) h) refl (own h) (a.names h e) (a.groups h e)
      ∙ ap (λ (n : ℕ). found_after n c t h (nat_eq n h)) i;
  result = a.result;
}

-- Where a group they agree on has these members in both, they agree as before.
pub members_keep : (on : Resource → Bool) (s t : State) (g : ℕ) (st : Store) → on (resource.Group g) ≡ true
    → Agree on s t → Agree on (with_store g (Some (Here st)) s) (with_store g (Some (Here st)) t)
members_keep on s t g st i a = store_keeps on s t g (Some (Here st)) (a.names g i) (λ h. refl) a

-- Where the same was returned in both, they agree as before.
pub result_keeps : (on : Resource → Bool) (s t : State) (v : Option Val) → Agree on s t
    → Agree on (record s { result = v }) (record t { result = v })
result_keeps on s t v a = record { locals = a.locals; names = a.names; groups = a.groups; result = refl }
