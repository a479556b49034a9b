-- A call that was opened leads back to its caller.
use Rattle.std.proofs.Common.{◌≡◌, ◌∙◌, ℕ, nat_eq, Bool, true, false, not, ◌||◌, List, [], ◌∷◌, ◌++◌, map, Option, None}
use Rattle.std.proofs.Common.{Some, refl, ap, sym, subst}
use Rattle.std.specs.Prelude.{if◌then◌else◌, zip, filter_map, drop}
use Rattle.std.specs.List.{cons_option}
use Rattle.std.proofs.lemmas.Bool.{and_from, eqb-true}
use Rattle.ae_tree.specs.declared.tree.GroupNeed.{GroupNeed}
use Rattle.ae_rules.specs.Lookups.{has_name}
use Rattle.ae_semantics.specs.Places.{Group, Here, Away, As, Address, with}
use Rattle.ae_semantics.specs.Calls.{Argument, value_comes_back}
use Rattle.ae_values.specs.declared.env.Bind.{Bind}
use Rattle.ae_values.specs.declared.env.Bound.{Bound}
use Rattle.ae_values.specs.declared.env.Bound.TheVariants as bound
use Rattle.ae_values.specs.Binding.{bound_in, IsCallFrom}
use Rattle.ae_values.specs.Shapes.{NameShape, OfLocal, OfGroup, shape_in}
use Rattle.ae_calls.specs.Param.{slot_of}
use Rattle.ae_frames.specs.declared.given.Arg.{Arg}
use Rattle.ae_frames.specs.declared.given.Parameter.{Parameter}
use Rattle.ae_frames.specs.declared.granted.Back.{Back}
use Rattle.ae_frames.specs.declared.granted.Lent.{Lent}
use Rattle.ae_frames.specs.declared.opening.Waiting.{Waiting}
use Rattle.ae_frames.specs.Awaiting.{Awaits}
use Rattle.ae_frames.specs.Bounds.{shapes_by}
use Rattle.ae_frames.specs.Entries.{all_differ, need_names}
use Rattle.ae_frames.specs.Givens.{arguments_of, takers_of, names_bound_by}
use Rattle.ae_frames.specs.Granting.{LentGroup, got, all_got, all_lent, with_placeholders, lent_from, named_so}
use Rattle.ae_frames.specs.Kept.{ComesBack, back_from, returning}
use Rattle.ae_frames.specs.Returns.{back_names, lent_names, lent_holders}
use Rattle.ae_frames.specs.Shown.{backs_of, lents_of, got_shape}
use Rattle.ae_frames.proofs.from_text.Basics.{no_test_is_both, first_of_neither, second_of_neither}
use Rattle.ae_frames.proofs.BindingLemmas.{first_is_alone, others_differ}
use Rattle.ae_frames.proofs.GroupLemmas.{placeholder_is_shaped}
use Rattle.ae_frames.proofs.NameLemmas.{fails_before, negated, first_differ, rest_differ, rest_are_others}

-- ---- values

abbrev came_names : List ComesBack → List ℕ
came_names bs = map (λ (x : ComesBack). x.name) bs

abbrev coming : List Parameter → List Argument → List ComesBack
coming ts xs = filter_map returning (zip (takers_of ts) xs)

-- what comes back has the name of a parameter
back_is_named : (ts : List Parameter) (xs : List Argument) (y : ℕ) → has_name (came_names (coming ts xs)) y ≡ true
    → has_name (names_bound_by ts) y ≡ true
back_is_named [] xs y has = has
back_is_named (t ∷ ts) [] y has = absurd (cc has)
back_is_named (t ∷ ts) (x ∷ xs) y has = by_from x.from (value_comes_back (slot_of t.slot)) (nat_eq t.name y) refl has
    (back_is_named ts xs y)
  where
    rest : List ComesBack
    rest = coming ts xs

    by_from : (o : Option Address) (comes u : Bool) → nat_eq t.name y ≡ u
        → has_name (came_names (cons_option (back_from t.name comes o) rest)) y ≡ true
        → (has_name (came_names rest) y ≡ true → has_name (names_bound_by ts) y ≡ true)
        → (u || has_name (names_bound_by ts) y) ≡ true
    by_from o comes true q has later = refl
    by_from None comes false q has later = later has
    by_from (Some at) false false q has later = later has
    by_from (Some at) true false q has later = later (ap (λ u. u || has_name (came_names rest) y) (sym q) ∙ has)

-- the names of what comes back all differ
backs_differ : (ts : List Parameter) (xs : List Argument) → all_differ (names_bound_by ts) ≡ true
    → all_differ (came_names (coming ts xs)) ≡ true
backs_differ [] xs apart = refl
backs_differ (t ∷ ts) [] apart = refl
backs_differ (t ∷ ts) (x ∷ xs) apart = by_from x.from (value_comes_back (slot_of t.slot))
    (backs_differ ts xs (others_differ t.name (names_bound_by ts) apart))
  where
    rest : List ComesBack
    rest = coming ts xs

    by_from : (o : Option Address) (comes : Bool) → all_differ (came_names rest) ≡ true
        → all_differ (came_names (cons_option (back_from t.name comes o) rest)) ≡ true
    by_from None comes others = others
    by_from (Some at) false others = others
    by_from (Some at) true others = and_from (not (has_name (came_names rest) t.name)) (all_differ (came_names rest))
        (negated (has_name (came_names rest) t.name)
        (fails_before (has_name (came_names rest) t.name) (has_name (names_bound_by ts) t.name)
        (back_is_named ts xs t.name) (first_is_alone t.name (names_bound_by ts) apart)))
        others

backs_are_named : (bs : List Back) → came_names (backs_of bs) ≡ back_names bs
backs_are_named [] = refl
backs_are_named (b ∷ bs) = ap (λ zs. b.name ∷ zs) (backs_are_named bs)

-- ---- groups

abbrev group_names : List LentGroup → List ℕ
group_names ls = map (λ (l : LentGroup). l.group) ls

-- what is lent has the name of a need
lent_is_needed : (groups : ℕ → ℕ) (cs : ℕ → Option Group) (es ns : List GroupNeed) (y : ℕ)
    → has_name (group_names (all_lent groups cs es ns)) y ≡ true → has_name (need_names ns) y ≡ true
lent_is_needed groups cs es [] y has = has
lent_is_needed groups cs es (n ∷ ns) y has = by_got (got groups cs es n.group.name) (nat_eq n.group.name y) refl has
    (lent_is_needed groups cs (es ++ (n ∷ [])) ns y)
  where
    rest : List LentGroup
    rest = all_lent groups cs (es ++ (n ∷ [])) ns

    by_got : (o : Option Group) (u : Bool) → nat_eq n.group.name y ≡ u
        → has_name (group_names (cons_option (lent_from (groups n.group.name) n.group.name o) rest)) y ≡ true
        → (has_name (group_names rest) y ≡ true → has_name (need_names ns) y ≡ true)
        → (u || has_name (need_names ns) y) ≡ true
    by_got o true q has later = refl
    by_got None false q has later = later has
    by_got (Some (As h)) false q has later = later has
    by_got (Some (Here st)) false q has later = later (ap (λ u. u || has_name (group_names rest) y) (sym q) ∙ has)
    by_got (Some (Away c)) false q has later = later (ap (λ u. u || has_name (group_names rest) y) (sym q) ∙ has)

-- the names of what is lent all differ
lents_differ : (groups : ℕ → ℕ) (cs : ℕ → Option Group) (es ns : List GroupNeed) → all_differ (need_names ns) ≡ true
    → all_differ (group_names (all_lent groups cs es ns)) ≡ true
lents_differ groups cs es [] apart = refl
lents_differ groups cs es (n ∷ ns) apart = by_got (got groups cs es n.group.name)
    (lents_differ groups cs (es ++ (n ∷ [])) ns (others_differ n.group.name (need_names ns) apart))
  where
    rest : List LentGroup
    rest = all_lent groups cs (es ++ (n ∷ [])) ns

    alone : has_name (group_names rest) n.group.name ≡ false
    alone = fails_before (has_name (group_names rest) n.group.name) (has_name (need_names ns) n.group.name)
        (lent_is_needed groups cs (es ++ (n ∷ [])) ns n.group.name) (first_is_alone n.group.name (need_names ns) apart)

    by_got : (o : Option Group) → all_differ (group_names rest) ≡ true
        → all_differ (group_names (cons_option (lent_from (groups n.group.name) n.group.name o) rest)) ≡ true
    by_got None others = others
    by_got (Some (As h)) others = others
    by_got (Some (Here st)) others = and_from (not (has_name (group_names rest) n.group.name))
        (all_differ (group_names rest)) (negated (has_name (group_names rest) n.group.name) alone) others
    by_got (Some (Away c)) others = and_from (not (has_name (group_names rest) n.group.name))
        (all_differ (group_names rest)) (negated (has_name (group_names rest) n.group.name) alone) others

-- what is lent stands under its own name
lent_is_shaped : (groups : ℕ → ℕ) (cs : ℕ → Option Group) (es ns : List GroupNeed) (y : ℕ)
    → all_differ (need_names ns) ≡ true → has_name (group_names (all_lent groups cs es ns)) y ≡ true
    → shape_in (map got_shape (all_got groups cs es ns)) y ≡ Some (OfGroup None)
lent_is_shaped groups cs es [] y apart has = absurd (cc has)
lent_is_shaped groups cs es (n ∷ ns) y apart has = by_got (got groups cs es n.group.name) (nat_eq n.group.name y) refl
    has (lent_is_shaped groups cs (es ++ (n ∷ [])) ns y (others_differ n.group.name (need_names ns) apart))
  where
    rest : List LentGroup
    rest = all_lent groups cs (es ++ (n ∷ [])) ns

    gots : List (ℕ × Group)
    gots = all_got groups cs (es ++ (n ∷ [])) ns

    of_need : nat_eq n.group.name y ≡ true → has_name (group_names rest) y ≡ true → ⊥
    of_need q h = no_test_is_both (has_name (need_names ns) n.group.name)
        (subst (λ (z : ℕ). has_name (need_names ns) z ≡ true) (sym (eqb-true n.group.name y q))
        (lent_is_needed groups cs (es ++ (n ∷ [])) ns y h)) (first_is_alone n.group.name (need_names ns) apart)

    by_got : (o : Option Group) (u : Bool) → nat_eq n.group.name y ≡ u
        → has_name (group_names (cons_option (lent_from (groups n.group.name) n.group.name o) rest)) y ≡ true
        → (has_name (group_names rest) y ≡ true → shape_in (map got_shape gots) y ≡ Some (OfGroup None))
        → shape_in (map got_shape (cons_option (named_so n.group.name o) gots)) y ≡ Some (OfGroup None)
    by_got None u q h later = later h
    by_got (Some (As k)) true q h later = absurd (of_need q h)
    by_got (Some (As k)) false q h later =
        ap (λ (t : Bool). if t then Some (OfGroup (Some k)) else shape_in (map got_shape gots) y) q ∙ later h
    by_got (Some (Here st)) true q h later =
        ap (λ (t : Bool). if t then Some (OfGroup None) else shape_in (map got_shape gots) y) q
    by_got (Some (Here st)) false q h later =
        ap (λ (t : Bool). if t then Some (OfGroup None) else shape_in (map got_shape gots) y) q
        ∙ later (ap (λ u. u || has_name (group_names rest) y) (sym q) ∙ h)
    by_got (Some (Away c)) true q h later =
        ap (λ (t : Bool). if t then Some (OfGroup None) else shape_in (map got_shape gots) y) q
    by_got (Some (Away c)) false q h later =
        ap (λ (t : Bool). if t then Some (OfGroup None) else shape_in (map got_shape gots) y) q
        ∙ later (ap (λ u. u || has_name (group_names rest) y) (sym q) ∙ h)

lents_are_named : (ls : List Lent) → group_names (lents_of ls) ≡ lent_names ls
lents_are_named [] = refl
lents_are_named (l ∷ ls) = ap (λ zs. l.group ∷ zs) (lents_are_named ls)

-- parameters go before groups
behind : (ts : List Parameter) (xs : List Arg) (ys : List (ℕ × NameShape)) (g : ℕ)
    → has_name (names_bound_by ts) g ≡ false → shape_in (shapes_by ts xs ++ ys) g ≡ shape_in ys g
behind [] xs ys g other = refl
behind (t ∷ ts) [] ys g other = refl
behind (t ∷ ts) (x ∷ xs) ys g other =
    ap (λ (u : Bool). if u then Some (OfLocal t.slot.form) else shape_in (shapes_by ts xs ++ ys) g)
    (first_of_neither (nat_eq t.name g) (has_name (names_bound_by ts) g) other)
    ∙ behind ts xs ys g (second_of_neither (nat_eq t.name g) (has_name (names_bound_by ts) g) other)

-- ---- placeholders

-- a placeholder stays where others are put
still_held : (ls : List LentGroup) (f : ℕ → Option Bound) (y : ℕ) → f y ≡ Some (bound.Cell 0)
    → with_placeholders ls f y ≡ Some (bound.Cell 0)
still_held [] f y h = h
still_held (l ∷ ls) f y h = still_held ls (with l.holder (Some (bound.Cell 0)) f) y (by_test (nat_eq l.holder y))
  where
    by_test : (t : Bool) → (if t then Some (bound.Cell 0) else f y) ≡ Some (bound.Cell 0)
    by_test true = refl
    by_test false = h

-- a placeholder stands under each name from which a group was lent
each_is_held : (ls : List Lent) (f : ℕ → Option Bound) (y : ℕ) → has_name (lent_holders ls) y ≡ true
    → with_placeholders (lents_of ls) f y ≡ Some (bound.Cell 0)
each_is_held [] f y has = absurd (cc has)
each_is_held (l ∷ ls) f y has = by_test (nat_eq l.holder y) refl has
    (each_is_held ls (with l.holder (Some (bound.Cell 0)) f) y)
  where
    by_test : (t : Bool) → nat_eq l.holder y ≡ t → (t || has_name (lent_holders ls) y) ≡ true
        → (has_name (lent_holders ls) y ≡ true
        → with_placeholders (lents_of ls) (with l.holder (Some (bound.Cell 0)) f) y ≡ Some (bound.Cell 0))
        → with_placeholders (lents_of ls) (with l.holder (Some (bound.Cell 0)) f) y ≡ Some (bound.Cell 0)
    by_test true q h later = still_held (lents_of ls) (with l.holder (Some (bound.Cell 0)) f) y
        (ap (λ (t : Bool). if t then Some (bound.Cell 0) else f y) q)
    by_test false q h later = later h

-- what is kept of a caller leads back to it
pub opened_awaits : (ts : List Parameter) (xs : List Arg) (ns : List GroupNeed) (groups : ℕ → ℕ)
    (cs : ℕ → Option Group) (w : Waiting) (names : List (ℕ × NameShape)) (waiting : List Bind) (f : ℕ → Option Bound)
    → all_differ (names_bound_by ts ++ need_names ns) ≡ true → IsCallFrom waiting w.base
    → backs_of w.back.items ≡ filter_map returning (zip (takers_of ts) (arguments_of xs))
    → lents_of w.lent.items ≡ all_lent groups cs [] ns
    → names ≡ shapes_by ts xs ++ map got_shape (all_got groups cs [] ns)
    → bound_in (drop w.base waiting) ≡ with_placeholders (lents_of w.lent.items) f → Awaits w names waiting
opened_awaits ts xs ns groups cs w names waiting f apart call back lent named waits =
    let lents : lent_names w.lent.items ≡ group_names (all_lent groups cs [] ns) =
    sym (lents_are_named w.lent.items) ∙ ap group_names lent in
    record {
      call = call;
      values_differ = ap all_differ (sym (backs_are_named w.back.items) ∙ ap came_names back)
          ∙ backs_differ ts (arguments_of xs) (first_differ (names_bound_by ts) (need_names ns) apart);
      groups_differ = ap all_differ lents ∙ lents_differ groups cs [] ns (rest_differ (names_bound_by ts) (need_names ns)
          apart);
      lent = λ g has.
          let is : has_name (group_names (all_lent groups cs [] ns)) g ≡ true =
          ap (λ zs. has_name zs g) (sym lents) ∙ has in
          ap (λ ys. shape_in ys g) named
          ∙ behind ts xs (map got_shape (all_got groups cs [] ns)) g
          (rest_are_others (names_bound_by ts) (need_names ns) g apart (lent_is_needed groups cs [] ns g is))
          ∙ lent_is_shaped groups cs [] ns g (rest_differ (names_bound_by ts) (need_names ns) apart) is;
      held = λ g has. placeholder_is_shaped (drop w.base waiting) g 0
          (ap (λ (h : ℕ → Option Bound). h g) waits ∙ each_is_held w.lent.items f g has);
    }
