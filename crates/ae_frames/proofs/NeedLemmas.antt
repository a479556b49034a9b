-- Facts on what is got for the needs of a method, need by need and all at once.
use Rattle.std.proofs.Common.{◌≡◌, ◌∙◌, ℕ, nat_eq, Bool, true, false, not, List, [], ◌∷◌, ◌++◌, Option}
use Rattle.std.proofs.Common.{None, Some, refl, ap, sym, subst}
use Rattle.std.specs.Prelude.{if◌then◌else◌, option_map, is_some}
use Rattle.std.specs.List.{cons_option}
use Rattle.std.proofs.lemmas.Bool.{eqb-true, not-true}
use Rattle.ae_tree.specs.declared.tree.GroupNeed.{GroupNeed}
use Rattle.ae_rules.specs.Lookups.{has_name}
use Rattle.ae_semantics.specs.Places.{Group, As, State}
use Rattle.ae_semantics.specs.Calls.{groups_needed}
use Rattle.ae_frames.specs.Entries.{all_differ, need_names}
use Rattle.ae_frames.specs.Granting.{first_need, got_after, got, named_so, all_got}
use Rattle.ae_frames.specs.Granting.{group_in_list}
use Rattle.ae_frames.proofs.from_text.Basics.{first_of_both, second_of_both, first_of_neither, second_of_neither}
use Rattle.ae_frames.proofs.from_text.Basics.{number_is_itself}

-- earlier needs of the same group give their names
abbrev pub named_after : (ℕ → ℕ) → ℕ → List GroupNeed → Option Group → Option Group
named_after groups g [] c = c
named_after groups g (e ∷ es) c = if nat_eq (groups e.group.name) (groups g)
    then option_map (λ (x : Group). As e.group.name) (named_after groups g es c) else named_after groups g es c

-- names are given where there is something
pub mapped_alike : (f : ℕ) (a b : Option Group) → is_some a ≡ is_some b
    → option_map (λ (x : Group). As f) a ≡ option_map (λ (x : Group). As f) b
mapped_alike f None None h = refl
mapped_alike f None (Some b) h = absurd (cc)
mapped_alike f (Some a) None h = absurd (cc)
mapped_alike f (Some a) (Some b) h = refl

mapped_is_there : (f : ℕ) (a : Option Group) → is_some (option_map (λ (x : Group). As f) a) ≡ is_some a
mapped_is_there f None = refl
mapped_is_there f (Some a) = refl

named_is_there : (groups : ℕ → ℕ) (g : ℕ) (es : List GroupNeed) (c : Option Group)
    → is_some (named_after groups g es c) ≡ is_some c
named_is_there groups g [] c = refl
named_is_there groups g (e ∷ es) c = by_test (nat_eq (groups e.group.name) (groups g)) (named_is_there groups g es c)
  where
    by_test : (t : Bool) → is_some (named_after groups g es c) ≡ is_some c
        → is_some (if t then option_map (λ (x : Group). As e.group.name) (named_after groups g es c)
        else named_after groups g es c) ≡ is_some c
    by_test true h = mapped_is_there e.group.name (named_after groups g es c) ∙ h
    by_test false h = h

-- the first of the earlier needs gives its name
named_by_first : (groups : ℕ → ℕ) (g : ℕ) (es : List GroupNeed) (c : Option Group)
    → named_after groups g es c ≡ got_after (first_need groups es (groups g)) c
named_by_first groups g [] c = refl
named_by_first groups g (e ∷ es) c = by_test (nat_eq (groups e.group.name) (groups g)) (named_by_first groups g es c)
  where
    by_test : (t : Bool) → named_after groups g es c ≡ got_after (first_need groups es (groups g)) c
        → (if t then option_map (λ (x : Group). As e.group.name) (named_after groups g es c)
        else named_after groups g es c)
        ≡ got_after (if t then Some e.group.name else first_need groups es (groups g)) c
    by_test true h = mapped_alike e.group.name (named_after groups g es c) c (named_is_there groups g es c)
    by_test false h = h

nothing_named : (groups : ℕ → ℕ) (g : ℕ) (es : List GroupNeed) → named_after groups g es None ≡ None
nothing_named groups g [] = refl
nothing_named groups g (e ∷ es) = by_test (nat_eq (groups e.group.name) (groups g)) (nothing_named groups g es)
  where
    by_test : (t : Bool) → named_after groups g es None ≡ None
        → (if t then option_map (λ (x : Group). As e.group.name) (named_after groups g es None)
        else named_after groups g es None) ≡ None
    by_test true h = ap (option_map (λ (x : Group). As e.group.name)) h
    by_test false h = h

named_one_more : (groups : ℕ → ℕ) (g : ℕ) (es : List GroupNeed) (n : GroupNeed) (c : Option Group)
    → named_after groups g (es ++ n ∷ []) c ≡ named_after groups g es (named_after groups g (n ∷ []) c)
named_one_more groups g [] n c = refl
named_one_more groups g (e ∷ es) n c = ap (λ o. if nat_eq (groups e.group.name) (groups g)
    then option_map (λ (x : Group). As e.group.name) o else o) (named_one_more groups g es n c)

-- what is needed after earlier needs of other names
needed_after : (groups : ℕ → ℕ) (s : State) (es ns : List GroupNeed) (g : ℕ) → has_name (need_names es) g ≡ false
    → groups_needed groups s (es ++ ns) g ≡ named_after groups g es (groups_needed groups s ns g)
needed_after groups s [] ns g new = refl
needed_after groups s (e ∷ es) ns g new =
    ap (λ t. if t then s.groups (groups g) else (if nat_eq (groups e.group.name) (groups g)
    then option_map (λ (x : Group). As e.group.name) (groups_needed groups s (es ++ ns) g)
    else groups_needed groups s (es ++ ns) g))
    (first_of_neither (nat_eq e.group.name g) (has_name (need_names es) g) new)
    ∙ ap (λ o. if nat_eq (groups e.group.name) (groups g) then option_map (λ (x : Group). As e.group.name) o else o)
    (needed_after groups s es ns g (second_of_neither (nat_eq e.group.name g) (has_name (need_names es) g) new))

-- what is needed of the first group that is needed
needed_at_first : (groups : ℕ → ℕ) (s : State) (n : GroupNeed) (ns : List GroupNeed)
    → groups_needed groups s (n ∷ ns) n.group.name ≡ s.groups (groups n.group.name)
needed_at_first groups s n ns = ap (λ t. if t then s.groups (groups n.group.name)
    else (if nat_eq (groups n.group.name) (groups n.group.name)
    then option_map (λ (x : Group). As n.group.name) (groups_needed groups s ns n.group.name)
    else groups_needed groups s ns n.group.name)) (number_is_itself n.group.name)

-- what is needed of a group is what is got for its need
pub needed_is_got : (groups : ℕ → ℕ) (s : State) (es : List GroupNeed) (n : GroupNeed) (ns : List GroupNeed)
    → has_name (need_names es) n.group.name ≡ false
    → groups_needed groups s (es ++ n ∷ ns) n.group.name ≡ got groups s.groups es n.group.name
needed_is_got groups s es n ns new = needed_after groups s es (n ∷ ns) n.group.name new
    ∙ ap (named_after groups n.group.name es) (needed_at_first groups s n ns)
    ∙ named_by_first groups n.group.name es (s.groups (groups n.group.name))

-- ---- the list of what is got

-- a name that no need has is not in the list
not_in_list : (groups : ℕ → ℕ) (cs : ℕ → Option Group) (es ns : List GroupNeed) (g : ℕ)
    → has_name (need_names ns) g ≡ false → group_in_list (all_got groups cs es ns) g ≡ None
not_in_list groups cs es [] g new = refl
not_in_list groups cs es (n ∷ ns) g new = by_got (got groups cs es n.group.name)
    (not_in_list groups cs (es ++ (n ∷ [])) ns g
    (second_of_neither (nat_eq n.group.name g) (has_name (need_names ns) g) new))
  where
    by_got : (o : Option Group) → group_in_list (all_got groups cs (es ++ (n ∷ [])) ns) g ≡ None
        → group_in_list (cons_option (named_so n.group.name o) (all_got groups cs (es ++ (n ∷ [])) ns)) g ≡ None
    by_got None h = h
    by_got (Some c) h = ap (λ t. if t then Some c else group_in_list (all_got groups cs (es ++ (n ∷ [])) ns) g)
        (first_of_neither (nat_eq n.group.name g) (has_name (need_names ns) g) new) ∙ h

-- the list has what is needed
listed_after : (groups : ℕ → ℕ) (s : State) (es ns : List GroupNeed) (g : ℕ) → all_differ (need_names ns) ≡ true
    → group_in_list (all_got groups s.groups es ns) g ≡ named_after groups g es (groups_needed groups s ns g)
listed_after groups s es [] g apart = sym (nothing_named groups g es)
listed_after groups s es (n ∷ ns) g apart = by_test (listed_after groups s (es ++ (n ∷ [])) ns g
    (second_of_both (not (has_name (need_names ns) n.group.name)) (all_differ (need_names ns)) apart))
    (nat_eq n.group.name g) refl
  where
    rest : List (ℕ × Group)
    rest = all_got groups s.groups (es ++ (n ∷ [])) ns

    alone : has_name (need_names ns) n.group.name ≡ false
    alone = not-true (has_name (need_names ns) n.group.name)
        (first_of_both (not (has_name (need_names ns) n.group.name)) (all_differ (need_names ns)) apart)

    here : (o : Option Group) → group_in_list (cons_option (named_so n.group.name o) rest) n.group.name ≡ o
    here None = not_in_list groups s.groups (es ++ (n ∷ [])) ns n.group.name alone
    here (Some c) = ap (λ t. if t then Some c else group_in_list rest n.group.name) (number_is_itself n.group.name)

    further : (o : Option Group) → nat_eq n.group.name g ≡ false
        → group_in_list (cons_option (named_so n.group.name o) rest) g ≡ group_in_list rest g
    further None q = refl
    further (Some c) q = ap (λ t. if t then Some c else group_in_list rest g) q

    by_test : group_in_list rest g ≡ named_after groups g (es ++ (n ∷ [])) (groups_needed groups s ns g)
        → (t : Bool) → nat_eq n.group.name g ≡ t
        → group_in_list (all_got groups s.groups es (n ∷ ns)) g
        ≡ named_after groups g es (groups_needed groups s (n ∷ ns) g)
    by_test later true q = subst (λ y. group_in_list (all_got groups s.groups es (n ∷ ns)) y
        ≡ named_after groups y es (groups_needed groups s (n ∷ ns) y)) (eqb-true n.group.name g q)
        (here (got groups s.groups es n.group.name)
        ∙ sym (named_by_first groups n.group.name es (s.groups (groups n.group.name)))
        ∙ ap (named_after groups n.group.name es) (sym (needed_at_first groups s n ns)))
    by_test later false q = further (got groups s.groups es n.group.name) q
        ∙ later
        ∙ named_one_more groups g es n (groups_needed groups s ns g)
        ∙ ap (λ t. named_after groups g es (if t then s.groups (groups g)
        else (if nat_eq (groups n.group.name) (groups g)
        then option_map (λ (x : Group). As n.group.name) (groups_needed groups s ns g)
        else groups_needed groups s ns g))) (sym q)

-- the list of what is got has, under each name, what is needed of that group
pub listed_is_needed : (groups : ℕ → ℕ) (s : State) (ns : List GroupNeed) (g : ℕ) → all_differ (need_names ns) ≡ true
    → group_in_list (all_got groups s.groups [] ns) g ≡ groups_needed groups s ns g
listed_is_needed groups s ns g apart = listed_after groups s [] ns g apart
