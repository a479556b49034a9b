-- What is taken out of a callee one by one, and what comes back so.
use Rattle.std.proofs.Common.{◌≡◌, ◌∙◌, ℕ, nat_eq, Bool, true, false, ◌||◌, List, [], ◌∷◌, ◌++◌, map, Option, None}
use Rattle.std.proofs.Common.{Some, refl, ap, sym, append_assoc, append-nil, length, reverse}
use Rattle.std.specs.Prelude.{if◌then◌else◌, option_map}
use Rattle.std.proofs.lemmas.List.{map-append}
use Rattle.std.proofs.lemmas.Bool.{or_right, eqb-true}
use Rattle.ae_rules.specs.Lookups.{has_name}
use Rattle.ae_semantics.specs.Values.{Val}
use Rattle.ae_semantics.specs.Places as meant
use Rattle.ae_semantics.specs.Places.{Outcome, Fine, Traps, Lacks, ◌>>=◌, Group, State, Address, with}
use Rattle.ae_values.specs.declared.env.Env.{Env}
use Rattle.ae_values.specs.Environments.{bound_under, locals_in, running_binds, waiting_binds}
use Rattle.ae_values.specs.Shapes.{OfGroup, shapes, shape_in}
use Rattle.ae_frames.specs.declared.granted.Back.{Back}
use Rattle.ae_frames.specs.declared.granted.Lent.{Lent}
use Rattle.ae_frames.specs.declared.returned.Came.{Came}
use Rattle.ae_frames.specs.declared.returned.Returned.{Returned}
use Rattle.ae_frames.specs.Entries.{all_differ}
use Rattle.ae_frames.specs.Granting.{groups_seen}
use Rattle.ae_frames.specs.Returns.{value_returned, values_from, came_of, cames_of, group_from, groups_from, returned_of}
use Rattle.ae_frames.specs.Returns.{returneds_of, back_names, lent_names, AreGroups, holders_of, lent_holders}
use Rattle.ae_frames.specs.Shown.{back_of, backs_of, lent_of, lents_of, placed}
use Rattle.ae_frames.proofs.from_text.Basics.{first_of_neither, second_of_neither, number_is_itself}
use Rattle.ae_frames.proofs.from_text.Basics.{no_test_is_both}
use Rattle.ae_frames.proofs.BindingLemmas.{first_is_alone, others_differ, nothing_left}

-- one more was taken, which is what came next, and of the rest all is as it was
one_more_taken : {A B : Type 0} (view : A → B) (xs ys : List A) (x : A) (y : B) (rest now all : List B)
    → map view xs ++ y ∷ rest ≡ all → view x ≡ y → now ≡ rest → ys ≡ xs ++ x ∷ [] → map view ys ++ now ≡ all
one_more_taken view xs ys x y rest now all so is same more =
    ap (λ zs. map view zs ++ now) more
    ∙ ap (λ zs. zs ++ now) (map-append view xs (x ∷ []))
    ∙ append_assoc (map view xs) (view x ∷ []) now
    ∙ ap (λ z. map view xs ++ z ∷ now) is
    ∙ ap (λ zs. map view xs ++ y ∷ zs) same ∙ so

-- names differ either way round
is_other : (m k : ℕ) → nat_eq k m ≡ false → nat_eq m k ≡ false
is_other m k h = by_test (nat_eq m k) refl
  where
    by_test : (t : Bool) → nat_eq m k ≡ t → t ≡ false
    by_test true e = absurd (no_test_is_both (nat_eq k m) (ap (nat_eq k) (eqb-true m k e) ∙ number_is_itself k) h)
    by_test false e = refl

-- ---- values

-- of other names the same comes
values_besides : (bs : List Back) (locals : ℕ → Option meant.Bound) (n : ℕ) → has_name (back_names bs) n ≡ false
    → values_from (with n None locals) (backs_of bs) ≡ values_from locals (backs_of bs)
values_besides [] locals n other = refl
values_besides (b ∷ bs) locals n other =
    ap (λ (t : Bool). (value_at b (if t then nothing else locals b.name)) ∷ values_from (with n None locals)
    (backs_of bs)) (is_other n b.name (first_of_neither (nat_eq b.name n) (has_name (back_names bs) n) other))
    ∙ ap (λ zs. value_returned locals (back_of b) ∷ zs)
    (values_besides bs locals n (second_of_neither (nat_eq b.name n) (has_name (back_names bs) n) other))
  where
    nothing : Option meant.Bound
    nothing = None

    value_at : Back → Option meant.Bound → Address × Option Val
    value_at c o = ((back_of c).at, option_map (λ (x : meant.Bound). x.value) o)

-- these values are still to be taken out
pub record ValuesSoFar (all : List Back) (old e : Env) (bs : List Back) (cs : List Came) : Type 0 where
  pub came : cames_of cs ++ values_from (locals_in (bound_under e)) (backs_of bs)
      ≡ values_from (locals_in (bound_under old)) (backs_of all)
  pub apart : all_differ (back_names bs) ≡ true
  pub seen_groups : groups_seen e ≡ groups_seen old
  pub shaped : shapes (running_binds e) ≡ shapes (running_binds old)
  pub waits : waiting_binds e ≡ waiting_binds old

-- one more was taken
pub values_one_more : (all : List Back) (old e f : Env) (b : Back) (c : Came) (bs : List Back) (cs ds : List Came)
    → ValuesSoFar all old e (b ∷ bs) cs → came_of c ≡ value_returned (locals_in (bound_under e)) (back_of b)
    → locals_in (bound_under f) ≡ with b.name None (locals_in (bound_under e)) → groups_seen f ≡ groups_seen e
    → shapes (running_binds f) ≡ shapes (running_binds e) → waiting_binds f ≡ waiting_binds e → ds ≡ cs ++ c ∷ []
    → ValuesSoFar all old f bs ds
values_one_more all old e f b c bs cs ds so is left groups shaped waits more = record {
  came = one_more_taken came_of cs ds c (value_returned (locals_in (bound_under e)) (back_of b))
      (values_from (locals_in (bound_under e)) (backs_of bs)) (values_from (locals_in (bound_under f)) (backs_of bs))
      (values_from (locals_in (bound_under old)) (backs_of all)) so.came is
      (ap (λ l. values_from l (backs_of bs)) left ∙ values_besides bs (locals_in (bound_under e)) b.name
      (first_is_alone b.name (back_names bs) so.apart)) more;
  apart = others_differ b.name (back_names bs) so.apart;
  seen_groups = groups ∙ so.seen_groups;
  shaped = shaped ∙ so.shaped;
  waits = waits ∙ so.waits;
}

-- all were taken
pub values_all_taken : (all : List Back) (old e : Env) (bs : List Back) (cs : List Came) → length bs ≡ 0
    → ValuesSoFar all old e (reverse bs) cs → cames_of cs ≡ values_from (locals_in (bound_under old)) (backs_of all)
values_all_taken all old e bs cs none so = sym (append-nil (cames_of cs))
    ∙ ap (λ zs. cames_of cs ++ values_from (locals_in (bound_under e)) (backs_of zs)) (sym (nothing_left bs none))
    ∙ so.came

-- ---- groups

-- of other names there are the same groups
groups_besides : (ls : List Lent) (groups : ℕ → Option Group) (n : ℕ) (c : Option Group)
    → has_name (lent_names ls) n ≡ false
    → groups_from (with n c groups) (lents_of ls) ≡ groups_from groups (lents_of ls)
groups_besides [] groups n c other = refl
groups_besides (l ∷ ls) groups n c other =
    ap (λ (t : Bool). (l.holder, (if t then c else groups l.group)) ∷ groups_from (with n c groups) (lents_of ls))
    (is_other n l.group (first_of_neither (nat_eq l.group n) (has_name (lent_names ls) n) other))
    ∙ ap (λ zs. group_from groups (lent_of l) ∷ zs)
    (groups_besides ls groups n c (second_of_neither (nat_eq l.group n) (has_name (lent_names ls) n) other))

-- these groups are still to be taken out
pub record GroupsSoFar (all : List Lent) (old e : Env) (ls : List Lent) (rs : List Returned) : Type 0 where
  pub returned : returneds_of rs ++ groups_from (groups_seen e) (lents_of ls)
      ≡ groups_from (groups_seen old) (lents_of all)
  pub apart : all_differ (lent_names ls) ≡ true
  pub stand : AreGroups (lent_names ls) (shapes (running_binds e))
  pub waits : waiting_binds e ≡ waiting_binds old

-- the first of them stands
pub first_stands : (all : List Lent) (old e : Env) (l : Lent) (ls : List Lent) (rs : List Returned)
    → GroupsSoFar all old e (l ∷ ls) rs → shape_in (shapes (running_binds e)) l.group ≡ Some (OfGroup None)
first_stands all old e l ls rs so = so.stand l.group
    (ap (λ (t : Bool). t || has_name (lent_names ls) l.group) (number_is_itself l.group))

-- one more was taken
pub groups_one_more : (all : List Lent) (old e f : Env) (l : Lent) (r : Returned) (ls : List Lent)
    (rs ss : List Returned) → GroupsSoFar all old e (l ∷ ls) rs
    → returned_of r ≡ group_from (groups_seen e) (lent_of l) → groups_seen f ≡ with l.group placed (groups_seen e)
    → shapes (running_binds f) ≡ shapes (running_binds e) → waiting_binds f ≡ waiting_binds e → ss ≡ rs ++ r ∷ []
    → GroupsSoFar all old f ls ss
groups_one_more all old e f l r ls rs ss so is left shaped waits more = record {
  returned = one_more_taken returned_of rs ss r (group_from (groups_seen e) (lent_of l))
      (groups_from (groups_seen e) (lents_of ls)) (groups_from (groups_seen f) (lents_of ls))
      (groups_from (groups_seen old) (lents_of all)) so.returned is
      (ap (λ g. groups_from g (lents_of ls)) left ∙ groups_besides ls (groups_seen e) l.group placed
      (first_is_alone l.group (lent_names ls) so.apart)) more;
  apart = others_differ l.group (lent_names ls) so.apart;
  stand = λ g has. ap (λ ys. shape_in ys g) shaped
      ∙ so.stand g (or_right (nat_eq l.group g) (has_name (lent_names ls) g) has);
  waits = waits ∙ so.waits;
}

-- all were taken
pub groups_all_taken : (all : List Lent) (old e : Env) (ls : List Lent) (rs : List Returned) → length ls ≡ 0
    → GroupsSoFar all old e (reverse ls) rs → returneds_of rs ≡ groups_from (groups_seen old) (lents_of all)
groups_all_taken all old e ls rs none so = sym (append-nil (returneds_of rs))
    ∙ ap (λ zs. returneds_of rs ++ groups_from (groups_seen e) (lents_of zs)) (sym (nothing_left ls none))
    ∙ so.returned

-- what was taken goes to the names from which it was lent
pub holders_are : (rs : List Returned) (ls : List Lent) (groups : ℕ → Option Group)
    → returneds_of rs ≡ groups_from groups (lents_of ls) → holders_of rs ≡ lent_holders ls
holders_are rs ls groups is = sym (first_names rs) ∙ ap (map (λ (x : ℕ × Option Group). x.0)) is ∙ last_names ls
  where
    first_names : (ss : List Returned)
        → map (λ (x : ℕ × Option Group). x.0) (returneds_of ss) ≡ holders_of ss
    first_names [] = refl
    first_names (s ∷ ss) = ap (λ zs. s.holder ∷ zs) (first_names ss)

    last_names : (ks : List Lent)
        → map (λ (x : ℕ × Option Group). x.0) (groups_from groups (lents_of ks)) ≡ lent_holders ks
    last_names [] = refl
    last_names (k ∷ ks) = ap (λ zs. k.holder ∷ zs) (last_names ks)
