-- Facts on what comes back where a call is left: names given away, values, and groups.
use Rattle.std.proofs.Common.{◌≡◌, ◌∙◌, ℕ, nat_eq, Bool, true, false, ◌||◌, List, [], ◌∷◌, Option, None, Some, refl}
use Rattle.std.proofs.Common.{ap, sym}
use Rattle.std.specs.Prelude.{if◌then◌else◌, option_map, filter_map}
use Rattle.std.specs.List.{cons_option}
use Rattle.std.proofs.lemmas.Bool.{eqb-true, or_right}
use Rattle.ae_tree.specs.declared.tree.GroupNeed.{GroupNeed}
use Rattle.ae_rules.specs.Verdict.{given}
use Rattle.ae_rules.specs.Lookups.{has_name}
use Rattle.ae_semantics.specs.Values.{Val}
use Rattle.ae_semantics.specs.Places as meant
use Rattle.ae_semantics.specs.Places.{Outcome, Fine, ◌>>=◌, there, Group, Here, Away, As, State, Address, write, with}
use Rattle.ae_semantics.specs.Places.{with_bound, with_store, name_of, other_name}
use Rattle.ae_semantics.specs.Calls.{Argument, Taker, value_comes_back, put_back, values_back, without_moved}
use Rattle.ae_semantics.specs.Calls.{group_back, groups_back, groups_needed}
use Rattle.ae_frames.specs.Entries.{need_names}
use Rattle.ae_frames.specs.Granting.{LentGroup, is_lent, lent_from, is_holder}
use Rattle.ae_frames.specs.Kept.{ComesBack, back_from, returning, values_brought_back, groups_come_back}
use Rattle.ae_frames.specs.Leaving.{is_another, IsKeptAs}
use Rattle.ae_frames.proofs.from_text.Basics.{functions_agree, number_is_itself}
use Rattle.ae_frames.proofs.from_values.BindLemmas.{with_itself}

-- ---- names that were given away

-- groups stay where names were given away
moved_keeps_groups : (xs : List ℕ) (s : State) → (without_moved xs s).groups ≡ s.groups
moved_keeps_groups [] s = refl
moved_keeps_groups (x ∷ xs) s = moved_keeps_groups xs (with_bound x None s)

moved_keeps_result : (xs : List ℕ) (s : State) → (without_moved xs s).result ≡ s.result
moved_keeps_result [] s = refl
moved_keeps_result (x ∷ xs) s = moved_keeps_result xs (with_bound x None s)

-- of two states with the same locals the same are left
moved_alike : (xs : List ℕ) (s t : State) → s.locals ≡ t.locals
    → (without_moved xs s).locals ≡ (without_moved xs t).locals
moved_alike [] s t h = h
moved_alike (x ∷ xs) s t h = moved_alike xs (with_bound x None s) (with_bound x None t) (ap (with x None) h)

-- ---- values

one_comes_back : (name : ℕ) (comes : Bool) (from : Option Address) (bs : List ComesBack) (after t : State)
    → ((if comes then given from (Fine t) (λ at. there (after.locals name) >>= λ b. write t at b.value) else Fine t)
    >>= values_brought_back bs after) ≡ values_brought_back (cons_option (back_from name comes from) bs) after t
one_comes_back name true None bs after t = refl
one_comes_back name true (Some at) bs after t = refl
one_comes_back name false None bs after t = refl
one_comes_back name false (Some at) bs after t = refl

-- the values that come back are those of the parameters that do
pub values_come_back : (zs : List (Taker × Argument)) (after t : State)
    → values_brought_back (filter_map returning zs) after t ≡ values_back zs after t
values_come_back [] after t = refl
values_come_back (z ∷ zs) after t =
    sym (one_comes_back z.0.0 (value_comes_back z.0.1) z.1.from (filter_map returning zs) after t)
    ∙ ap (λ (f : State → Outcome State). put_back z after t >>= f)
    (functions_agree (values_brought_back (filter_map returning zs) after) (values_back zs after)
    (λ u. values_come_back zs after u))

-- ---- what was got of a group of the caller

-- a group itself is got of the caller's
lent_is_own : (groups : ℕ → ℕ) (s : State) (ns : List GroupNeed) (g : ℕ) → is_lent (groups_needed groups s ns g) ≡ true
    → groups_needed groups s ns g ≡ s.groups (groups g)
lent_is_own groups s [] g lent = absurd (cc)
lent_is_own groups s (n ∷ ns) g lent = by_test (nat_eq n.group.name g) (nat_eq (groups n.group.name) (groups g)) lent
    (lent_is_own groups s ns g)
  where
    no_name_is_lent : (o : Option Group) → is_lent (option_map (λ (x : Group). As n.group.name) o) ≡ true → ⊥
    no_name_is_lent None q = cc
    no_name_is_lent (Some c) q = cc

    by_test : (t u : Bool) → is_lent (if t then s.groups (groups g)
        else (if u then option_map (λ (x : Group). As n.group.name) (groups_needed groups s ns g)
        else groups_needed groups s ns g)) ≡ true
        → (is_lent (groups_needed groups s ns g) ≡ true → groups_needed groups s ns g ≡ s.groups (groups g))
        → (if t then s.groups (groups g)
        else (if u then option_map (λ (x : Group). As n.group.name) (groups_needed groups s ns g)
        else groups_needed groups s ns g)) ≡ s.groups (groups g)
    by_test true u q later = refl
    by_test false true q later = absurd (no_name_is_lent (groups_needed groups s ns g) q)
    by_test false false q later = later q

-- nothing is got of what the caller has not
none_is_none : (groups : ℕ → ℕ) (s : State) (ns : List GroupNeed) (g : ℕ) → has_name (need_names ns) g ≡ true
    → groups_needed groups s ns g ≡ None → s.groups (groups g) ≡ None
none_is_none groups s [] g has none = absurd (cc)
none_is_none groups s (n ∷ ns) g has none = by_test (nat_eq n.group.name g) (nat_eq (groups n.group.name) (groups
    g)) has
    none (none_is_none groups s ns g)
  where
    nothing_named : (o : Option Group) → option_map (λ (x : Group). As n.group.name) o ≡ None → o ≡ None
    nothing_named None q = refl
    nothing_named (Some c) q = absurd (cc)

    by_test : (t u : Bool) → (t || has_name (need_names ns) g) ≡ true → (if t then s.groups (groups g)
        else (if u then option_map (λ (x : Group). As n.group.name) (groups_needed groups s ns g)
        else groups_needed groups s ns g)) ≡ None
        → (has_name (need_names ns) g ≡ true → groups_needed groups s ns g ≡ None → s.groups (groups g) ≡ None)
        → s.groups (groups g) ≡ None
    by_test true u h q later = q
    by_test false true h q later = later h (nothing_named (groups_needed groups s ns g) q)
    by_test false false h q later = later h q

-- ---- groups

-- What there was of a group, what is got of it and what is left of it: a group itself, or nothing, is the caller's.
pub record IsReturned (own got left : Option Group) : Type 0 where
  pub own_is_got : is_lent got ≡ true → got ≡ own
  pub none_is_own : got ≡ None → own ≡ None
  pub kept : IsKeptAs got left

-- What has come back so far, and the caller's groups as they were: nothing is still nothing, and no group has a new
-- name.
pub record IsSoFar (own now : ℕ → Option Group) : Type 0 where
  pub nothing : (y : ℕ) → own y ≡ None → now y ≡ None
  pub no_new_name : (y : ℕ) → is_another (own y) ≡ false → is_another (now y) ≡ false

leads_to_itself : (g : ℕ) (c : Option Group) → is_another c ≡ false → other_name g c ≡ g
leads_to_itself g None h = refl
leads_to_itself g (Some (Here st)) h = refl
leads_to_itself g (Some (Away cell)) h = refl
leads_to_itself g (Some (As k)) h = absurd (cc)

-- what is no other name comes back
back_is_stored : (g : ℕ) (c : Option Group) (s : State) → is_another c ≡ false → group_back g c s ≡ with_store g c s
back_is_stored g None s h = refl
back_is_stored g (Some (Here st)) s h = refl
back_is_stored g (Some (Away cell)) s h = refl
back_is_stored g (Some (As k)) s h = absurd (cc)

stored_at_itself : (g : ℕ) (c : Option Group) (s : State) → is_another c ≡ false → is_another (s.groups g) ≡ false
    → group_back g c s ≡ record s { groups = with g c s.groups }
stored_at_itself g c s left own = back_is_stored g c s left
    ∙ ap (λ (h : ℕ). record s { groups = with h c s.groups }) (leads_to_itself g (s.groups g) own)

-- a group that comes back keeps what is so far
so_far_after : (own now : ℕ → Option Group) (h : ℕ) (c : Option Group) → IsSoFar own now → is_another c ≡ false
    → (own h ≡ None → ⊥) → IsSoFar own (with h c now)
so_far_after own now h c so left some = record {
  nothing = λ y none. nothing y none (nat_eq h y) refl;
  no_new_name = λ y other. no_new_name y other (nat_eq h y);
}
  where
    nothing : (y : ℕ) → own y ≡ None → (t : Bool) → nat_eq h y ≡ t → (if t then c else now y) ≡ None
    nothing y none true q = absurd (some (ap own (eqb-true h y q) ∙ none))
    nothing y none false q = so.nothing y none

    no_new_name : (y : ℕ) → is_another (own y) ≡ false → (t : Bool) → is_another (if t then c else now y) ≡ false
    no_new_name y other true = left
    no_new_name y other false = so.no_new_name y other

lent_is_some : (c : Option Group) → is_lent c ≡ true → c ≡ None → ⊥
lent_is_some None lent none = cc
lent_is_some (Some c) lent none = cc

lent_is_no_name : (c : Option Group) → is_lent c ≡ true → is_another c ≡ false
lent_is_no_name None lent = refl
lent_is_no_name (Some (Here st)) lent = refl
lent_is_no_name (Some (Away cell)) lent = refl
lent_is_no_name (Some (As h)) lent = absurd (cc)

kept_is_no_name : (c a : Option Group) → is_lent c ≡ true → IsKeptAs c a → is_another a ≡ false
kept_is_no_name None a lent kept = absurd (cc)
kept_is_no_name (Some (Here st)) a lent kept = kept
kept_is_no_name (Some (Away cell)) a lent kept = kept
kept_is_no_name (Some (As h)) a lent kept = absurd (cc)

-- the two ways to give back, on two states that differ where something is still lent
pub record IsBeside (ls : List LentGroup) (s b : State) : Type 0 where
  pub locals : s.locals ≡ b.locals
  pub groups : (y : ℕ) → is_holder ls y ≡ false → s.groups y ≡ b.groups y
  pub result : s.result ≡ b.result

one_beside : (l : LentGroup) (ls : List LentGroup) (s b : State) (c : Option Group) → IsBeside (l ∷ ls) s b
    → IsBeside ls (record s { groups = with l.holder c s.groups }) (record b { groups = with l.holder c b.groups })
one_beside l ls s b c so = record {
  locals = so.locals;
  groups = λ y other. by_test y other (nat_eq l.holder y) (so.groups y);
  result = so.result;
}
  where
    by_test : (y : ℕ) → is_holder ls y ≡ false → (t : Bool) → ((t || is_holder ls y) ≡ false → s.groups y ≡ b.groups y)
        → (if t then c else s.groups y) ≡ (if t then c else b.groups y)
    by_test y other true same = refl
    by_test y other false same = same other

-- a state by its parts
abbrev made_of : (ℕ → Option meant.Bound) → (ℕ → Option Group) → Option Val → State
made_of l g r = record { locals = l; groups = g; result = r }

nothing_beside : (s b : State) → IsBeside [] s b → s ≡ b
nothing_beside s b so = ap (λ (l : ℕ → Option meant.Bound). made_of l s.groups s.result) so.locals
    ∙ ap (λ (g : ℕ → Option Group). made_of b.locals g s.result) (functions_agree s.groups b.groups (λ y. so.groups
    y refl))
    ∙ ap (λ (r : Option Val). made_of b.locals b.groups r) so.result

-- what was lent for these needs
abbrev pub lents_of_needs : (ℕ → ℕ) → (ℕ → Option Group) → List GroupNeed → List LentGroup
lents_of_needs groups got ns = filter_map (λ (n : GroupNeed). lent_from (groups n.group.name) n.group.name
    (got n.group.name)) ns

-- the rest of the groups comes back, from any two states beside each other
abbrev RestComesBack : (ℕ → ℕ) → (ℕ → Option Group) → List LentGroup → List GroupNeed → State → Type 0
RestComesBack groups own rest ns after = (t c : State) → IsSoFar own c.groups → IsBeside rest t c
    → groups_come_back rest after t ≡ groups_back groups ns after c

-- a group that was lent comes back, and then the rest
itself_comes_back : (groups : ℕ → ℕ) (own : ℕ → Option Group) (g : ℕ) (rest : List LentGroup) (ns : List GroupNeed)
    (after s b : State) → IsSoFar own b.groups → (c : Option Group) → is_lent c ≡ true
    → IsReturned (own (groups g)) c (after.groups g) → RestComesBack groups own rest ns after
    → IsBeside (record { group = g; holder = groups g } ∷ rest) s b
    → groups_come_back rest after (record s { groups = with (groups g) (after.groups g) s.groups })
    ≡ groups_back groups ns after (group_back (groups g) (after.groups g) b)
itself_comes_back groups own g rest ns after s b so c lent fact later here =
    let left = kept_is_no_name c (after.groups g) lent fact.kept in
    let owned = fact.own_is_got lent in
    let mine = so.no_new_name (groups g) (ap is_another (sym owned) ∙ lent_is_no_name c lent) in
    later (record s { groups = with (groups g) (after.groups g) s.groups })
    (record b { groups = with (groups g) (after.groups g) b.groups })
    (so_far_after own b.groups (groups g) (after.groups g) so left (λ none. lent_is_some c lent (owned ∙ none)))
    (one_beside (record { group = g; holder = groups g }) rest s b (after.groups g) here)
    ∙ ap (groups_back groups ns after) (sym (stored_at_itself (groups g) (after.groups g) b left mine))

-- where there was nothing of a group nothing comes back
nothing_comes_back : (groups : ℕ → ℕ) (own : ℕ → Option Group) (g : ℕ) (after b : State) → IsSoFar own b.groups
    → IsReturned (own (groups g)) None (after.groups g) → group_back (groups g) (after.groups g) b ≡ b
nothing_comes_back groups own g after b so fact =
    let none = so.nothing (groups g) (fact.none_is_own refl) in
    ap (λ (c : Option Group). group_back (groups g) c b) fact.kept
    ∙ stored_at_itself (groups g) None b refl (ap is_another none)
    ∙ ap (λ (f : ℕ → Option Group). record b { groups = f }) (with_itself (groups g) None b.groups none)

-- the group of one need comes back, and then the rest
one_comes_back_first : (groups : ℕ → ℕ) (own : ℕ → Option Group) (g : ℕ) (rest : List LentGroup) (ns : List GroupNeed)
    (after s b : State) → IsSoFar own b.groups → (c : Option Group)
    → IsBeside (cons_option (lent_from (groups g) g c) rest) s b
    → IsReturned (own (groups g)) c (after.groups g) → RestComesBack groups own rest ns after
    → groups_come_back (cons_option (lent_from (groups g) g c) rest) after s
    ≡ groups_back groups ns after (group_back (groups g) (after.groups g) b)
one_comes_back_first groups own g rest ns after s b so None here fact later =
    later s b so here ∙ ap (groups_back groups ns after) (sym (nothing_comes_back groups own g after b so fact))
one_comes_back_first groups own g rest ns after s b so (Some (Here st)) here fact later =
    (itself_comes_back) groups own g rest ns after s b so (Some (Here st)) refl fact later here
one_comes_back_first groups own g rest ns after s b so (Some (Away cell)) here fact later =
    (itself_comes_back) groups own g rest ns after s b so (Some (Away cell)) refl fact later here
one_comes_back_first groups own g rest ns after s b so (Some (As k)) here fact later = later s b so here
    ∙ ap (λ (x : Option Group). groups_back groups ns after (group_back (groups g) x b)) (sym fact.kept)

-- the groups that were lent come back as those of the needs
pub all_groups_come_back : (groups : ℕ → ℕ) (own got : ℕ → Option Group) (ns : List GroupNeed) (after s b : State)
    → ((g : ℕ) → has_name (need_names ns) g ≡ true → IsReturned (own (groups g)) (got g) (after.groups g))
    → IsSoFar own b.groups → IsBeside (lents_of_needs groups got ns) s b
    → groups_come_back (lents_of_needs groups got ns) after s ≡ groups_back groups ns after b
all_groups_come_back groups own got [] after s b facts so beside = nothing_beside s b beside
all_groups_come_back groups own got (n ∷ ns) after s b facts so beside =
    (one_comes_back_first) groups own n.group.name (lents_of_needs groups got ns) ns after s b so (got n.group.name)
    beside
    (facts n.group.name (ap (λ t. t || has_name (need_names ns) n.group.name) (number_is_itself n.group.name)))
    (λ t c far near. all_groups_come_back groups own got ns after t c
    (λ y has. facts y (or_right (nat_eq n.group.name y) (has_name (need_names ns) y) has)) far near)

-- ---- all that comes back

-- what comes back over what is left of the caller is what comes back over the caller
pub all_comes_back : (groups : ℕ → ℕ) (before after s : State) (all : List GroupNeed) (zs : List (Taker × Argument))
    (gone : List ℕ) → ((g : ℕ) → has_name (need_names all) g ≡ true
    → IsKeptAs (groups_needed groups before all g) (after.groups g))
    → s.locals ≡ before.locals → s.result ≡ before.result
    → ((y : ℕ) → is_holder (lents_of_needs groups (groups_needed groups before all) all) y ≡ false
    → s.groups y ≡ before.groups y)
    → values_brought_back (filter_map returning zs) after (groups_come_back
    (lents_of_needs groups (groups_needed groups before all) all) after (without_moved gone s))
    ≡ values_back zs after (groups_back groups all after (without_moved gone before))
all_comes_back groups before after s all zs gone stay locals result same =
    let t : State = without_moved gone s in
    let b : State = without_moved gone before in
    let kept : b.groups ≡ before.groups = moved_keeps_groups gone before in
    ap (values_brought_back (filter_map returning zs) after)
    (all_groups_come_back groups before.groups (groups_needed groups before all) all after t b
    (λ g has. record {
      own_is_got = lent_is_own groups before all g;
      none_is_own = none_is_none groups before all g has;
      kept = stay g has;
    })
    (record {
      nothing = λ y none. ap (λ (f : ℕ → Option Group). f y) kept ∙ none;
      no_new_name = λ y other. ap (λ (f : ℕ → Option Group). is_another (f y)) kept ∙ other;
    })
    (record {
      locals = moved_alike gone s before locals;
      groups = λ y other. ap (λ (f : ℕ → Option Group). f y) (moved_keeps_groups gone s) ∙ same y other
          ∙ sym (ap (λ (f : ℕ → Option Group). f y) kept);
      result = moved_keeps_result gone s ∙ result ∙ sym (moved_keeps_result gone before);
    }))
    ∙ values_come_back zs after (groups_back groups all after b)
