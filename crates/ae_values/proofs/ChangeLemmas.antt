-- Facts on places that are changed where they stand, as the meaning changes them.
use Rattle.std.proofs.Common.{◌≡◌, ℕ, Bool, true, false, List, Option, None, Some, option_map, slice_get, slice_set}
use Rattle.std.proofs.Common.{refl, sym, ap, ◌∙◌}
use Rattle.std.specs.Prelude.{if◌then◌else◌, ℤ}
use Rattle.std.proofs.lemmas.Option.{same_Some, none-some}
use Rattle.ae_rules.specs.Verdict.{given}
use Rattle.ae_tree.specs.declared.form.Form.{Form}
use Rattle.ae_semantics.specs.Values as meant
use Rattle.ae_semantics.specs.Values.{Tree, Store, Owned, OfInt, OfBool, Null, Member, Array, put_at, is_low}
use Rattle.ae_semantics.specs.Places as place
use Rattle.ae_semantics.specs.Places.{Outcome, Fine, Traps, Lacks, ◌>>=◌, there, low, bind, CellName, State, with}
use Rattle.ae_semantics.specs.Places.{with_bound, members, group_of, name_of, InLocal, InGroup, write_in}
use Rattle.ae_semantics.specs.Places.{rewrite_member, with_member}
use Rattle.ae_values.specs.declared.env.Env.{Env}
use Rattle.ae_values.specs.declared.value.Val.{Val}
use Rattle.ae_values.specs.declared.env.Bound.{Bound}
use Rattle.ae_values.specs.declared.env.Bound.TheVariants as bound
use Rattle.ae_values.specs.declared.env.Image.TheVariants as image
use Rattle.ae_values.specs.Shown.{shown}
use Rattle.ae_values.specs.Inside.{object_or, array_inside, item_changed}
use Rattle.ae_values.specs.Binding.{members_bound, with_members, IsChanged}
use Rattle.ae_values.specs.Environments.{bound_under, state_in, local_bound, group_bound, locals_in, groups_in}
use Rattle.ae_values.proofs.BindLemmas.{locals_change}
use Rattle.ae_values.proofs.MemberLemmas.{members_seen, members_change}

-- what an outcome has, if it is one
abbrev got : {A : Type 0} → Outcome A → Option A
got (Fine x) = Some x
got (Traps code) = None
got Lacks = None

-- where there is an array, one item of it changed is another array written in its place
pub item_alike : (is : List ℕ) (k : ℕ) (n : ℤ) (v : meant.Val) (ns : List ℤ) → array_inside is v ≡ Some ns
    → item_changed is k n v ≡ put_at is (Owned (Array (slice_set ns k n))) v
item_alike is k n v ns inside =
    ap (λ (o : Option (List ℤ)). given o v (λ ms. put_at is (Owned (Array (slice_set ms k n))) v)) inside

-- where a local is changed as the meaning writes to it, the state is what the meaning leaves
pub local_as_meant : (cells : ℕ → CellName) (r : Option meant.Val) (e f : Env) (x : ℕ) (fields : List ℕ)
    (new : meant.Val) (change : meant.Val → meant.Val) (z : State)
    → ((b : place.Bound) → locals_in (bound_under e) x ≡ Some b → change b.value ≡ put_at fields new b.value)
    → ((b : Bound) → bound_under e x ≡ Some b
    → (a : Bound) × IsChanged change b a × (bound_under f ≡ with x (Some a) (bound_under e)))
    → write_in (state_in cells r e) (InLocal x) fields new ≡ Fine z → state_in cells r f ≡ z
local_as_meant cells r e f x fields new change z alike changed is = by_bound (bound_under e x) refl is
  where
    by_value : (form : Form) (v : Val) → bound_under e x ≡ Some (bound.Value form v) → (t : Bool)
        → ((if t then Fine (put_at fields new (shown v)) else Traps 8)
        >>= λ w. Fine (with_bound x (Some (record { form = form; value = w })) (state_in cells r e))) ≡ Fine z
        → state_in cells r f ≡ z
    by_value form v here true is =
        let w = changed (bound.Value form v) here in
        let u = w.1 in
        locals_change cells r e f x (Some w.0) w.2 (ap (λ (o : Option Bound). given o None (group_bound cells)) here)
        (ap (group_bound cells) u.2)
        ∙ ap (λ b. with_bound x (local_bound b) (state_in cells r e)) u.2
        ∙ ap (λ y. with_bound x (Some (record { form = form; value = y })) (state_in cells r e))
        (u.1 ∙ alike (record { form = form; value = shown v })
        (ap (λ (o : Option Bound). given o None local_bound) here))
        ∙ same_Some _ z (ap got is)
    by_value form v here false is = absurd (none-some z (ap got is))

    by_bound : (o : Option Bound) → bound_under e x ≡ o
        → (there (given o None local_bound)
        >>= λ b. bind x b.form (put_at fields new b.value) (state_in cells r e)) ≡ Fine z
        → state_in cells r f ≡ z
    by_bound None here is = absurd (none-some z (ap got is))
    by_bound (Some (bound.Value form v)) here is = by_value form v here (is_low (put_at fields new (shown v))) is
    by_bound (Some (bound.Moved form)) here is = absurd (none-some z (ap got is))
    by_bound (Some (bound.Whole i)) here is = absurd (none-some z (ap got is))
    by_bound (Some (bound.Other g)) here is = absurd (none-some z (ap got is))
    by_bound (Some (bound.Cell n)) here is = absurd (none-some z (ap got is))
    by_bound (Some (bound.Pieces ps)) here is = absurd (none-some z (ap got is))

-- members of which one is changed so; it stays an object
abbrev pub one_changed : ℕ → (meant.Val → meant.Val) → Store → Store
one_changed n change st = given (slice_get st n) st (λ t. slice_set st n (object_or t (change (Owned t))))

-- where a member is changed as the meaning writes to it, the state is what the meaning leaves
pub member_as_meant : (cells : ℕ → CellName) (r : Option meant.Val) (e f : Env) (g n : ℕ) (fields : List ℕ)
    (new : meant.Val) (change : meant.Val → meant.Val) (z : State)
    → ((st : Store) (t : Tree) → members (group_of (state_in cells r e) g) ≡ Some st → slice_get st n ≡ Some t
    → change (Owned t) ≡ put_at fields new (Owned t))
    → bound_under f ≡ with (name_of (state_in cells r e) g)
    (option_map (with_members (one_changed n change)) (bound_under e (name_of (state_in cells r e) g))) (bound_under e)
    → write_in (state_in cells r e) (InGroup g n) fields new ≡ Fine z → state_in cells r f ≡ z
member_as_meant cells r e f g n fields new change z alike same is =
    by_members (members (group_of (state_in cells r e) g)) refl is
  where
    by_value : (st : Store) (t : Tree) → members (group_of (state_in cells r e) g) ≡ Some st → slice_get st n ≡ Some t
        → (v : meant.Val) → put_at fields new (Owned t) ≡ v → with_member (state_in cells r e) g n st v ≡ Fine z
        → state_in cells r f ≡ z
    by_value st t seen at (Owned u) value is =
        members_change cells r e f g st (slice_set st n u) (with_members (one_changed n change)) seen
        (ap (λ (y : Store). bound.Whole (image.Store y))
        (ap (λ (o : Option Tree). given o st (λ k. slice_set st n (object_or k (change (Owned k))))) at
        ∙ ap (λ y. slice_set st n (object_or t y)) (alike st t seen at ∙ value)))
        same
        ∙ same_Some _ z (ap got is)
    by_value st t seen at (OfInt m) value is = absurd (none-some z (ap got is))
    by_value st t seen at (OfBool b) value is = absurd (none-some z (ap got is))
    by_value st t seen at Null value is = absurd (none-some z (ap got is))
    by_value st t seen at (Member m) value is = absurd (none-some z (ap got is))

    by_height : (st : Store) (t : Tree) → members (group_of (state_in cells r e) g) ≡ Some st → slice_get st n ≡ Some t
        → (b : Bool) → ((if b then Fine (put_at fields new (Owned t)) else Traps 8)
        >>= with_member (state_in cells r e) g n st) ≡ Fine z → state_in cells r f ≡ z
    by_height st t seen at true is = by_value st t seen at (put_at fields new (Owned t)) refl is
    by_height st t seen at false is = absurd (none-some z (ap got is))

    by_tree : (st : Store) → members (group_of (state_in cells r e) g) ≡ Some st → (o : Option Tree)
        → slice_get st n ≡ o
        → (there o >>= λ t. low (put_at fields new (Owned t)) >>= with_member (state_in cells r e) g n st) ≡ Fine z
        → state_in cells r f ≡ z
    by_tree st seen None at is = absurd (none-some z (ap got is))
    by_tree st seen (Some t) at is = by_height st t seen at (is_low (put_at fields new (Owned t))) is

    by_members : (o : Option Store) → members (group_of (state_in cells r e) g) ≡ o
        → (there o >>= rewrite_member (state_in cells r e) g n fields new) ≡ Fine z → state_in cells r f ≡ z
    by_members None seen is = absurd (none-some z (ap got is))
    by_members (Some st) seen is = by_tree st seen (slice_get st n) refl is

-- the members that the meaning sees of a group are those that are bound under the name that has it
pub members_held : (cells : ℕ → CellName) (r : Option meant.Val) (e : Env) (g x : ℕ) (o : Option Bound)
    → x ≡ name_of (state_in cells r e) g → bound_under e x ≡ o
    → members (group_of (state_in cells r e) g) ≡ given o None members_bound
members_held cells r e g x o holds here =
    sym (ap (λ y. members (groups_in cells (bound_under e) y)) holds)
    ∙ members_seen cells (bound_under e x)
    ∙ ap (λ (k : Option Bound). given k None members_bound) here
