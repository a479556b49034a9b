-- From states that agree on what a judged call uses it is left alike.
use Rattle.std.proofs.Common.{◌≡◌, refl, sym, ap, ◌∙◌, subst, ℕ, nat_eq, Bool, true, false, if◌then◌else◌, List, []}
use Rattle.std.proofs.Common.{◌∷◌}
use Rattle.std.proofs.Common.{zip, Option, None, Some}
use Rattle.std.specs.Prelude.{filter_map}
use Rattle.ae_tree.specs.declared.tree.GroupNeed.{GroupNeed}
use Rattle.ae_tree.specs.Plain.{Code, Invocation}
use Rattle.ae_rules.specs.declared.uses.Resource.{Resource}
use Rattle.ae_rules.specs.Verdict as rules
use Rattle.ae_rules.specs.Calls.{Callee, group_in, givens}
use Rattle.ae_semantics.specs.Places.{Outcome, Fine, ◌>>=◌, there, Group, Here, Away, As, Bound, State, with_bound}
use Rattle.ae_semantics.specs.Places.{other_name, name_of, Address, write}
use Rattle.ae_semantics.specs.Runs.{Where}
use Rattle.ae_semantics.specs.Calls.{Argument, Taker, takers, frame, group_given, without_moved, group_back}
use Rattle.ae_semantics.specs.Calls.{groups_back}
use Rattle.ae_semantics.specs.Calls.{value_comes_back, put_back, values_back, given_away, leave}
use Rattle.ae_needs.specs.Agree.{Agree}
use Rattle.ae_needs.proofs.AgreeLemmas.{moved_keeps, store_keeps}
use Rattle.ae_needs.proofs.AlikeLemmas.{Alike, then_alike, from_one}
use Rattle.ae_needs.proofs.WalkLemmas.{StandsOn}
use Rattle.ae_needs.proofs.WriteLemmas.{write_alike}
use Rattle.ae_needs.proofs.ArgumentLemmas.{FromOn, EachFromOn}
use Rattle.ae_needs.proofs.EnterLemmas.{NeedsIn}

-- ---- groups

-- under the caller's name for each of these groups there is the same in both states
abbrev EachSame : (ℕ → ℕ) → State → State → List GroupNeed → Type 0
EachSame to s t [] = Unit {0}
EachSame to s t (n ∷ ns) = (s.groups (to n.group.name) ≡ t.groups (to n.group.name)) × EachSame to s t ns

-- each of these groups has one name
abbrev EachNamed : (ℕ → ℕ) → (ℕ → ℕ) → List GroupNeed → Type 0
EachNamed to other [] = Unit {0}
EachNamed to other (n ∷ ns) = (to n.group.name ≡ other n.group.name) × EachNamed to other ns

back_keeps : (on : Resource → Bool) (s t : State) (g : ℕ) (o : Option Group) → s.groups g ≡ t.groups g
    → Agree on s t → Agree on (group_back g o s) (group_back g o t)
back_keeps on s t g None e a = store_keeps on s t g None (ap (other_name g) e) (λ h. refl) a
back_keeps on s t g (Some (Here st)) e a = store_keeps on s t g (Some (Here st)) (ap (other_name g) e) (λ h. refl) a
back_keeps on s t g (Some (Away cell)) e a = store_keeps on s t g (Some (Away cell)) (ap (other_name g) e) (λ h. refl) a
back_keeps on s t g (Some (As h)) e a = a

put_same : (s t : State) (g h : ℕ) (o : Option Group) → s.groups g ≡ t.groups g → s.groups h ≡ t.groups h
    → (if nat_eq (name_of s g) h then o else s.groups h) ≡ (if nat_eq (name_of t g) h then o else t.groups h)
put_same s t g h o e i = ap (λ (n : ℕ). if nat_eq n h then o else s.groups h) (ap (other_name g) e)
    ∙ ap (λ (y : Option Group). if nat_eq (name_of t g) h then o else y) i

back_same : (s t : State) (g h : ℕ) (o : Option Group) → s.groups g ≡ t.groups g → s.groups h ≡ t.groups h
    → (group_back g o s).groups h ≡ (group_back g o t).groups h
back_same s t g h None e i = put_same s t g h None e i
back_same s t g h (Some (Here st)) e i = put_same s t g h (Some (Here st)) e i
back_same s t g h (Some (Away cell)) e i = put_same s t g h (Some (Away cell)) e i
back_same s t g h (Some (As x)) e i = i

each_after : (to : ℕ → ℕ) (s t : State) (g : ℕ) (o : Option Group) (ns : List GroupNeed)
    → s.groups g ≡ t.groups g → EachSame to s t ns → EachSame to (group_back g o s) (group_back g o t) ns
each_after to s t g o [] e i = tt
each_after to s t g o (n ∷ ns) e i =
    (back_same s t g (to n.group.name) o e i.0, each_after to s t g o ns e i.1)

backs_keep : (on : Resource → Bool) (to : ℕ → ℕ) (ns : List GroupNeed) (after s t : State) → EachSame to s t ns
    → Agree on s t → Agree on (groups_back to ns after s) (groups_back to ns after t)
backs_keep on to [] after s t e a = a
backs_keep on to (n ∷ ns) after s t e a =
    let o : Option Group = after.groups n.group.name in
    backs_keep on to ns after (group_back (to n.group.name) o s) (group_back (to n.group.name) o t)
    (each_after to s t (to n.group.name) o ns e.0 e.1) (back_keeps on s t (to n.group.name) o e.0 a)

backs_named : (to other : ℕ → ℕ) (ns : List GroupNeed) (after s : State) → EachNamed to other ns
    → groups_back to ns after s ≡ groups_back other ns after s
backs_named to other [] after s e = refl
backs_named to other (n ∷ ns) after s e =
    let o : Option Group = after.groups n.group.name in
    ap (λ (g : ℕ). groups_back to ns after (group_back g o s)) e.0
    ∙ backs_named to other ns after (group_back (other n.group.name) o s) e.1

each_named : (on : Resource → Bool) (new : ℕ → ℕ) (s t : State) (ns : List GroupNeed) → Agree on s t
    → NeedsIn on new ns → EachNamed (λ g. name_of s (new g)) (λ g. name_of t (new g)) ns
each_named on new s t [] a i = tt
each_named on new s t (n ∷ ns) a i = (a.names (new n.group.name) i.0, each_named on new s t ns a i.1)

each_same : (on : Resource → Bool) (new : ℕ → ℕ) (s t : State) (ns : List GroupNeed) → Agree on s t
    → NeedsIn on new ns → EachSame (λ g. name_of s (new g)) s t ns
each_same on new s t [] a i = tt
each_same on new s t (n ∷ ns) a i =
    let g : ℕ = new n.group.name in
    (a.groups g i.0 ∙ ap t.groups (sym (a.names g i.0)), each_same on new s t ns a i.1)

-- groups stay where names have no value any more
moved_groups : (xs : List ℕ) (s : State) (g : ℕ) → (without_moved xs s).groups g ≡ s.groups g
moved_groups [] s g = refl
moved_groups (x ∷ xs) s g = moved_groups xs (with_bound x None s) g

each_moved : (to : ℕ → ℕ) (xs : List ℕ) (s t : State) (ns : List GroupNeed) → EachSame to s t ns
    → EachSame to (without_moved xs s) (without_moved xs t) ns
each_moved to xs s t [] e = tt
each_moved to xs s t (n ∷ ns) e = (
  moved_groups xs s (to n.group.name) ∙ e.0 ∙ sym (moved_groups xs t (to n.group.name)),
  each_moved to xs s t ns e.1,
)

-- ---- values

put_alike : (on : Resource → Bool) (x : Taker) (y : Argument) (after s t : State) → FromOn on y → Agree on s t
    → Alike (Agree on) (put_back (x, y) after s) (put_back (x, y) after t)
put_alike on x y after s t i a = by_test (value_comes_back x.1) y.from (λ at e. i at e)
  where
    goes : Option Address → State → Outcome State
    goes o u = rules.given o (Fine u) (λ at. there (after.locals x.0) >>= λ b. write u at b.value)

    by_place : (o : Option Address) → ((at : Address) → o ≡ Some at → StandsOn on at.base)
        → Alike (Agree on) (goes o s) (goes o t)
    by_place None h = a
    by_place (Some at) h = from_one (Agree on) (there (after.locals x.0)) (λ b. write s at b.value)
        (λ b. write t at b.value) (λ (b : Bound) e. write_alike on s t at.base at.fields b.value (h at refl) a)

    by_test : (d : Bool) (o : Option Address) → ((at : Address) → o ≡ Some at → StandsOn on at.base)
        → Alike (Agree on) (if d then goes o s else Fine s) (if d then goes o t else Fine t)
    by_test true o h = by_place o h
    by_test false o h = a

values_alike : (on : Resource → Bool) (xs : List Taker) (ys : List Argument) (after s t : State) → EachFromOn on ys
    → Agree on s t → Alike (Agree on) (values_back (zip xs ys) after s) (values_back (zip xs ys) after t)
values_alike on [] [] after s t i a = a
values_alike on [] (y ∷ ys) after s t i a = a
values_alike on (x ∷ xs) [] after s t i a = a
values_alike on (x ∷ xs) (y ∷ ys) after s t i a = then_alike (Agree on) (Agree on) (put_back (x, y) after s)
    (put_back (x, y) after t) (values_back (zip xs ys) after) (values_back (zip xs ys) after)
    (put_alike on x y after s t i.0 a) (λ u v b. values_alike on xs ys after u v i.1 b)

-- ---- calls

-- A call that was entered alike is left alike.
pub leave_alike : (on : Resource → Bool) (p : Code) (here : Where) (s t after : State) (i : Invocation) (k : Callee)
    (xs : List Argument) → Agree on s t → NeedsIn on (group_in k i.groups) k.method.needs → EachFromOn on xs
    → Alike (Agree on) (leave (frame p here s k (group_given s k i) xs) i s after)
    (leave (frame p here t k (group_given t k i) xs) i t after)
leave_alike on p here s t after i k xs a n h =
    let ms : List ℕ = filter_map given_away (zip (takers p k.method) (givens i)) in
    let u : State = without_moved ms s in
    let v : State = without_moved ms t in
    subst (λ (z : State). Alike (Agree on)
    (values_back (zip (takers p k.method) xs) after (groups_back (group_given s k i) k.method.needs after u))
    (values_back (zip (takers p k.method) xs) after z))
    (backs_named (group_given s k i) (group_given t k i) k.method.needs after v
    (each_named on (group_in k i.groups) s t k.method.needs a n))
    (values_alike on (takers p k.method) xs after _ _ h
    (backs_keep on (group_given s k i) k.method.needs after u v
    (each_moved (group_given s k i) ms s t k.method.needs
    (each_same on (group_in k i.groups) s t k.method.needs a n)) (moved_keeps on ms s t a)))
