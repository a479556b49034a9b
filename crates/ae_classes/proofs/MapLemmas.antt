-- Maps by name: one name more, and how many there can be.
use Rattle.std.proofs.Common.{◌≡◌, ◌<◌, ◌≤◌, ◌+◌, ◌^◌, ℕ, Bool, true, false, cond, nat_eq, ◌||◌, [], ◌∷◌, ◌++◌}
use Rattle.std.proofs.Common.{length, map, Option, None, Some, refl, sym, ap, subst, ◌∙◌, arith, true≢false}
use Rattle.std.specs.Prelude.{is_some}
use Rattle.std.specs.Option.{option_or}
use Rattle.std.specs.List.{list_any, IsDistinct}
use Rattle.std.specs.Cmp.{nat_eq_equiv}
use Rattle.std.proofs.lemmas.Bool.{eqb-true}
use Rattle.std.proofs.lemmas.List.{length-append, map-append}
use Rattle.std.proofs.lemmas.Map.Keys.{IsDistinct-push}
use Rattle.std.proofs.lemmas.Map.Made.{is_some-lookup}
use Rattle.std.proofs.lemmas.Map.Steps.{length-le_from_distinct_below}
use Rattle.std.proofs.lemmas.List.Folds.{list_any-append}
use Rattle.indexmap.specs.IndexMap.{IndexMap, get, keys, IsUnique, Updates, insert_entry}
use Rattle.indexmap.proofs.CallerLemmas.{insert_entry-new}
use Rattle.ae_rules.specs.Table.{and_also}
use Rattle.ae_classes.specs.Named.{named_in, only_at, HasOneMore, AreSmall}
use Rattle.ae_classes.proofs.from_text.Basics.{functions_agree}

one_put_behind_others : {V : Type 0} (k x : ℕ) (v : V) (o : ℕ → Option V) → o k ≡ None
    → cond (nat_eq k x) (Some v) (o x) ≡ option_or (o x) (only_at k v x)
one_put_behind_others k x v o none = by (nat_eq k x) refl
  where
    last : (b : Bool) (p : Option _) → (b ≡ true → p ≡ None) → cond b (Some v) p ≡ option_or p (cond b (Some v) None)
    last true p is = ap (λ q. option_or q (Some v)) (sym (is refl))
    last false None is = refl
    last false (Some y) is = refl

    by : (b : Bool) → nat_eq k x ≡ b → cond (nat_eq k x) (Some v) (o x) ≡ option_or (o x) (only_at k v x)
    by b e = last (nat_eq k x) (o x) (λ h. ap o (sym (eqb-true k x h)) ∙ none)

-- a name that a map does not have, put there, is one more
pub put_name_is_one_more : {V S : Type 0} (m n : IndexMap ℕ V S) (k : ℕ) (v : V) → Updates nat_eq m n k (Some v)
    → get nat_eq m k ≡ None → n.entries ≡ insert_entry nat_eq m.entries k v → IsUnique nat_eq n → HasOneMore k v m n
put_name_is_one_more m n k v updates none entries unique = record {
  found = λ x. updates.0 x ∙ one_put_behind_others k x v (get nat_eq m) none;
  names = ap (map (λ e. e.0)) (entries ∙ insert_entry-new nat_eq m k v none)
      ∙ map-append (λ e. e.0) m.entries ((k, v) ∷ []);
  unique = unique;
}

one_more_is_there : {V : Type 0} (b : Bool) (v : V) (o : Option V) → is_some (option_or o (cond b (Some v) None))
    ≡ (b || is_some o)
one_more_is_there true v None = refl
one_more_is_there false v None = refl
one_more_is_there true v (Some y) = refl
one_more_is_there false v (Some y) = refl

-- the names that it has then
pub one_more_name_is_there : {V S : Type 0} (m n : IndexMap ℕ V S) (k : ℕ) (v : V) → HasOneMore k v m n
    → and_also k (named_in m) ≡ named_in n
one_more_name_is_there m n k v more =
    functions_agree (and_also k (named_in m)) (named_in n)
    (λ x. sym (ap is_some (more.found x) ∙ one_more_is_there (nat_eq k x) v (get nat_eq m x)))

is_this_or_there : (q k : ℕ) (b : Bool) → (b || (nat_eq q k || false)) ≡ true → k < 2 ^ 32 → (b ≡ true
    → q < 2 ^ 32) → q < 2 ^ 32
is_this_or_there q k true h fits there = there refl
is_this_or_there q k false h fits there = by (nat_eq q k) refl
  where
    by : (b : Bool) → nat_eq q k ≡ b → q < 2 ^ 32
    by true e = subst (λ n. n < 2 ^ 32) (sym (eqb-true q k e)) fits
    by false e = absurd (true≢false (sym h ∙ ap (λ b. b || false) e))

-- Names are numbers of 32 bits, so where one is not among them yet, they are fewer than all.
pub names_leave_room : {V S : Type 0} (m : IndexMap ℕ V S) (k : ℕ) → IsUnique nat_eq m → AreSmall m
    → k < 2 ^ 32 → get nat_eq m k ≡ None → length (keys m) < 2 ^ 32
names_leave_room m k unique small fits none =
    let distinct : IsDistinct nat_eq (keys m ++ k ∷ []) = IsDistinct-push nat_eq_equiv (keys m) k unique
    (sym (is_some-lookup (nat_eq k) m.entries) ∙ ap is_some none) in
    let few : length (keys m ++ k ∷ []) ≤ 2 ^ 32 = length-le_from_distinct_below (keys m ++ k ∷ []) (2 ^ 32) distinct
    (λ q h. is_this_or_there q k (list_any (nat_eq q) (keys m))
    (sym (list_any-append (nat_eq q) (keys m) (k ∷ [])) ∙ h) fits
    (λ e. small q (is_some-lookup (nat_eq q) m.entries ∙ e))) in
    omega (arith, few, length-append (keys m) (k ∷ []))

-- one more small name
pub one_more_is_small : {V S : Type 0} (m n : IndexMap ℕ V S) (k : ℕ) (v : V) → HasOneMore k v m n → AreSmall m
    → k < 2 ^ 32 → AreSmall n
one_more_is_small m n k v more small fits q h = by (nat_eq k q) refl
  where
    by : (b : Bool) → nat_eq k q ≡ b → q < 2 ^ 32
    by true e = subst (λ y. y < 2 ^ 32) (eqb-true k q e) fits
    by false e = small q (sym (one_more_is_there (nat_eq k q) v (get nat_eq m q)
        ∙ ap (λ b. b || is_some (get nat_eq m q)) e)
        ∙ sym (ap is_some (more.found q)) ∙ h)

-- one name more is one more in number
pub one_more_name_counts : {V S : Type 0} (m n : IndexMap ℕ V S) (k : ℕ) (v : V) → HasOneMore k v m n
    → length (keys n) ≡ length (keys m) + 1
one_more_name_counts m n k v more = ap length more.names ∙ length-append (keys m) (k ∷ [])
