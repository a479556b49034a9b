-- Facts on what is got and lent for all needs of a method, in order.
use Rattle.std.proofs.Common.{◌≡◌, ◌∙◌, ℕ, nat_eq, Bool, true, false, ◌||◌, List, [], ◌∷◌, ◌++◌, map, Option, None}
use Rattle.std.proofs.Common.{Some, refl}
use Rattle.std.proofs.Common.{ap, sym, subst, append_assoc}
use Rattle.std.specs.Prelude.{if◌then◌else◌, option_map, filter_map}
use Rattle.std.specs.List.{cons_option}
use Rattle.std.proofs.lemmas.List.{map-append}
use Rattle.std.proofs.lemmas.Bool.{eqb-true}
use Rattle.ae_tree.specs.declared.tree.GroupNeed.{GroupNeed}
use Rattle.ae_rules.specs.Verdict.{given}
use Rattle.ae_rules.specs.Lookups.{has_name}
use Rattle.ae_semantics.specs.Places.{Group, Here, Away, As, State, with}
use Rattle.ae_semantics.specs.Calls.{groups_needed}
use Rattle.ae_values.specs.declared.env.Bound.{Bound}
use Rattle.ae_values.specs.declared.env.Bound.TheVariants as bound
use Rattle.ae_values.specs.Environments.{local_bound, group_bound, locals_in, groups_in}
use Rattle.ae_values.specs.Shapes.{NameShape}
use Rattle.ae_reads.specs.Answers.{one_name}
use Rattle.ae_frames.specs.Entries.{all_differ, need_names, group_shape, need_shape}
use Rattle.ae_frames.specs.Granting.{first_need, got_after, got, named_so, all_got, LentGroup, is_lent, lent_from}
use Rattle.ae_frames.specs.Granting.{all_lent}
use Rattle.ae_frames.specs.Granting.{is_holder, with_placeholders}
use Rattle.ae_frames.specs.Shown.{got_shape}
use Rattle.ae_frames.proofs.from_text.Basics.{number_is_itself, functions_agree, first_of_neither, second_of_neither}
use Rattle.ae_frames.proofs.NeedLemmas.{needed_is_got}
use Rattle.ae_frames.proofs.NameLemmas.{rest_are_others}

-- the name of a need is in none of the needs before it
new_name : (es : List GroupNeed) (n : GroupNeed) (ns : List GroupNeed) → all_differ (need_names (es ++ n ∷ ns)) ≡ true
    → has_name (need_names es) n.group.name ≡ false
new_name es n ns apart = rest_are_others (need_names es) (need_names (n ∷ ns)) n.group.name
    (subst (λ zs. all_differ zs ≡ true) (map-append (λ (m : GroupNeed). m.group.name) es (n ∷ ns)) apart)
    (ap (λ t. t || has_name (need_names ns) n.group.name) (number_is_itself n.group.name))

-- the groups that are lent, by what is needed of each
pub lents_in_order : (groups : ℕ → ℕ) (s : State) (es ns : List GroupNeed) → all_differ (need_names (es ++ ns)) ≡ true
    → all_lent groups s.groups es ns
    ≡ filter_map (λ (n : GroupNeed). lent_from (groups n.group.name) n.group.name
    (groups_needed groups s (es ++ ns) n.group.name)) ns
lents_in_order groups s es [] apart = refl
lents_in_order groups s es (n ∷ ns) apart =
    let same = append_assoc es (n ∷ []) ns in
    ap (λ (c : Option Group). cons_option (lent_from (groups n.group.name) n.group.name c)
    (all_lent groups s.groups (es ++ (n ∷ [])) ns)) (sym (needed_is_got groups s es n ns (new_name es n ns apart)))
    ∙ ap (cons_option (lent_from (groups n.group.name) n.group.name (groups_needed groups s (es ++ n ∷ ns)
    n.group.name)))
    (lents_in_order groups s (es ++ (n ∷ [])) ns (subst (λ zs. all_differ (need_names zs) ≡ true) (sym same) apart)
    ∙ ap (λ zs. filter_map (λ (m : GroupNeed). lent_from (groups m.group.name) m.group.name
    (groups_needed groups s zs m.group.name)) ns) same)

shaped_first : (g : ℕ) (o : Option Group) (rest : List (ℕ × Group)) → map got_shape (cons_option (named_so g o) rest)
    ≡ cons_option (option_map (λ (x : NameShape). (g, x)) (group_shape o)) (map got_shape rest)
shaped_first g None rest = refl
shaped_first g (Some (Here st)) rest = refl
shaped_first g (Some (Away cell)) rest = refl
shaped_first g (Some (As h)) rest = refl

-- the shapes of what is got, by what is needed of each group
pub shapes_in_order : (groups : ℕ → ℕ) (s : State) (es ns : List GroupNeed) → all_differ (need_names (es ++ ns)) ≡ true
    → map got_shape (all_got groups s.groups es ns) ≡ filter_map (need_shape (groups_needed groups s (es ++ ns))) ns
shapes_in_order groups s es [] apart = refl
shapes_in_order groups s es (n ∷ ns) apart =
    let same = append_assoc es (n ∷ []) ns in
    let g = n.group.name in
    (shaped_first) g (got groups s.groups es g) (all_got groups s.groups (es ++ (n ∷ [])) ns)
    ∙ ap (λ (c : Option Group). cons_option (option_map (λ (x : NameShape). (g, x)) (group_shape c))
    (map got_shape (all_got groups s.groups (es ++ (n ∷ [])) ns)))
    (sym (needed_is_got groups s es n ns (new_name es n ns apart)))
    ∙ ap (cons_option (need_shape (groups_needed groups s (es ++ n ∷ ns)) n))
    (shapes_in_order groups s (es ++ (n ∷ [])) ns (subst (λ zs. all_differ (need_names zs) ≡ true) (sym same) apart)
    ∙ ap (λ zs. filter_map (need_shape (groups_needed groups s zs)) ns) same)

-- ---- what is left where groups are lent

lent_is_itself : (o : Option ℕ) (c : Option Group) → is_lent (got_after o c) ≡ true → is_lent c ≡ true
lent_is_itself None c h = h
lent_is_itself (Some x) None h = absurd (cc)
lent_is_itself (Some x) (Some c) h = absurd (cc)

group_is_no_local : (o : Option Bound) → is_lent (given o None (group_bound one_name)) ≡ true
    → given o None local_bound ≡ None
group_is_no_local None h = refl
group_is_no_local (Some (bound.Value form v)) h = absurd (cc)
group_is_no_local (Some (bound.Moved form)) h = refl
group_is_no_local (Some (bound.Whole i)) h = refl
group_is_no_local (Some (bound.Other g)) h = refl
group_is_no_local (Some (bound.Cell n)) h = refl
group_is_no_local (Some (bound.Pieces ps)) h = refl

-- where a group was lent there is no local
pub holders_are_no_locals : (groups : ℕ → ℕ) (f : ℕ → Option Bound) (es ns : List GroupNeed) (y : ℕ)
    → is_holder (all_lent groups (groups_in one_name f) es ns) y ≡ true → locals_in f y ≡ None
holders_are_no_locals groups f es [] y holds = absurd (cc)
holders_are_no_locals groups f es (n ∷ ns) y holds = by_test (is_lent (got groups cs es n.group.name)) refl
    (nat_eq (groups n.group.name) y) refl holds (holders_are_no_locals groups f (es ++ (n ∷ [])) ns y)
  where
    cs : ℕ → Option Group
    cs = groups_in one_name f

    rest : List LentGroup
    rest = all_lent groups cs (es ++ (n ∷ [])) ns

    by_test : (t : Bool) → is_lent (got groups cs es n.group.name) ≡ t → (u : Bool) → nat_eq (groups n.group.name) y ≡ u
        → is_holder (cons_option (if t then Some (record { group = n.group.name; holder = groups n.group.name })
        else None)
        rest) y ≡ true
        → (is_holder rest y ≡ true → locals_in f y ≡ None) → locals_in f y ≡ None
    by_test true lent true q has later = subst (λ z. locals_in f z ≡ None) (eqb-true (groups n.group.name) y q)
        (group_is_no_local (f (groups n.group.name)) (lent_is_itself (first_need groups es (groups n.group.name))
        (cs (groups n.group.name)) lent))
    by_test true lent false q has later = later (ap (λ v. v || is_holder rest y) (sym q) ∙ has)
    by_test false lent u q has later = later has

-- one placeholder more changes no local
one_placed : (f : ℕ → Option Bound) (h : ℕ) → locals_in f h ≡ None
    → locals_in (with h (Some (bound.Cell 0)) f) ≡ locals_in f
one_placed f h none = functions_agree (locals_in (with h (Some (bound.Cell 0)) f)) (locals_in f)
    (λ y. by_test y (nat_eq h y) refl)
  where
    by_test : (y : ℕ) (t : Bool) → nat_eq h y ≡ t
        → given (if t then Some (bound.Cell 0) else f y) None local_bound ≡ locals_in f y
    by_test y true q = sym (subst (λ z. locals_in f z ≡ None) (eqb-true h y q) none)
    by_test y false q = refl

either_holds : (a b : Bool) → b ≡ true → (a || b) ≡ true
either_holds true b h = refl
either_holds false b h = h

-- where placeholders stand the locals are as they were
pub placed_keeps_locals : (ls : List LentGroup) (f : ℕ → Option Bound)
    → ((y : ℕ) → is_holder ls y ≡ true → locals_in f y ≡ None)
    → locals_in (with_placeholders ls f) ≡ locals_in f
placed_keeps_locals [] f none = refl
placed_keeps_locals (l ∷ ls) f none =
    let here : locals_in f l.holder ≡ None
    = none l.holder (ap (λ t. t || is_holder ls l.holder) (number_is_itself l.holder)) in
    let same = one_placed f l.holder here in
    placed_keeps_locals ls (with l.holder (Some (bound.Cell 0)) f)
    (λ y has. ap (λ (h : ℕ → _). h y) same ∙ none y (either_holds (nat_eq l.holder y) (is_holder ls y) has))
    ∙ same

-- where placeholders stand the other groups are as they were
pub placed_keeps_others : (ls : List LentGroup) (f : ℕ → Option Bound) (y : ℕ) → is_holder ls y ≡ false
    → groups_in one_name (with_placeholders ls f) y ≡ groups_in one_name f y
placed_keeps_others [] f y other = refl
placed_keeps_others (l ∷ ls) f y other =
    placed_keeps_others ls (with l.holder (Some (bound.Cell 0)) f) y
    (second_of_neither (nat_eq l.holder y) (is_holder ls y) other)
    ∙ ap (λ t. given (if t then Some (bound.Cell 0) else f y) None (group_bound one_name))
    (first_of_neither (nat_eq l.holder y) (is_holder ls y) other)
