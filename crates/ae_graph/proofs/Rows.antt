-- The lists of a graph, one after another.
use Rattle.std.proofs.Common.{◌≡◌, ◌≢◌, ℕ, zero, suc, ◌+◌, ◌<◌, ◌⊎◌, inl, inr, Bool, true, false, nat_eq, nat_lt}
use Rattle.std.proofs.Common.{◌||◌, List, [], ◌∷◌, ◌++◌, length, get_or, take, set, refl, sym, ap, ◌∙◌, subst}
use Rattle.std.proofs.Common.{arith, append_assoc}
use Rattle.std.specs.List.{Contains, All}
use Rattle.std.proofs.Common.{add-zero, zero-add}
use Rattle.std.proofs.lemmas.List.{append-nil, get_or_default, get_or-set_same, get_or-set_other, length-set}
use Rattle.std.proofs.lemmas.List.{take_more, get_or_append_left, get_or_push, length-append}
use Rattle.std.proofs.lemmas.List.Elements.{All-get_or, All-from_get_or, Contains-get_or}
use Rattle.std.proofs.lemmas.List.Elements.{Contains-append_left, Contains-push, Contains-push_cases}
use Rattle.std.proofs.lemmas.List.Folds.{list_any-append}
use Rattle.std.proofs.lemmas.Grind.{common_steps}
use Rattle.std.proofs.lemmas.Bool.Decides.{nat_tests}
use Rattle.ae_text.specs.declared.refusal.Edge.{Edge}
use Rattle.ae_rules.specs.Edges.{BlockUses, IsRising, Preds}
use Rattle.std.proofs.lemmas.Option.{slice_get_read}
use Rattle.ae_rules.specs.declared.uses.Footprint.{Footprint}
use Rattle.ae_uses.specs.Footprint.{IsFootprintOf}
use Rattle.ae_uses.specs.Opened.{AreFootprints}
use Rattle.ae_graph.specs.Graph.{Graph, preds_in, edges_to, edges_from, AreSuccs}
use Rattle.ae_graph.specs.Succs.{AreEarlier, is_among, joined, JoinsWaiters}
use Rattle.ae_graph.proofs.from_uses.Elements.{here, there, has_from, from_has}
use Rattle.std.proofs.lemmas.Bool.{false_from_ne_true}
use Rattle.ae_graph.proofs.from_text.Basics.{empty_has_nothing}
use Rattle.std.proofs.Math.Bool.{or-false}

below_or_at : (k j : ℕ) → k < j + 1 → (k < j) ⊎ (k ≡ j)
below_or_at k j h = split (nat_lt k j) refl
  where
    split : (t : Bool) → nat_lt k j ≡ t → (k < j) ⊎ (k ≡ j)
    split true e = inl (grind (arith, nat_tests))
    split false e = inr (grind (arith, nat_tests))

-- ---- the lists of those for which statements wait

row_at : (b : BlockUses) (g : Graph) (j k : ℕ) (row : List ℕ) → length g ≡ j
    → ((i : ℕ) → i < j → Preds b i (preds_in g i)) → Preds b j row
    → (k < j) ⊎ (k ≡ j) → Preds b k (preds_in (g ++ row ∷ []) k)
row_at b g j k row l h p (inl m) = subst (λ (r : List ℕ). Preds b k r)
    (sym (get_or_append_left g (row ∷ []) [] k (omega (arith, l, m)))) (h k m)
row_at b g j k row l h p (inr e) =
    subst (λ (n : ℕ). Preds b n (preds_in (g ++ row ∷ []) n)) (sym e)
    (subst (λ (r : List ℕ). Preds b j r) (sym (get_or_push g row [] j l)) p)

pub rows_more : (b : BlockUses) (g h : Graph) (j : ℕ) (row : List ℕ) → length g ≡ j → h ≡ g ++ row ∷ []
    → ((i : ℕ) → i < j → Preds b i (preds_in g i)) → Preds b j row
    → (k : ℕ) → k < j + 1 → Preds b k (preds_in h k)
rows_more b g h j row l q f p k m = subst (λ (x : Graph). Preds b k (preds_in x k)) (sym q)
    (row_at b g j k row l f p (below_or_at k j m))

pub length_more : (g h : Graph) (j : ℕ) (row : List ℕ) → length g ≡ j → h ≡ g ++ row ∷ [] → length h ≡ j + 1
length_more g h j row l e = omega (arith, l, ap length e, length-append g (row ∷ []))

-- ---- edges

edges_from-push : (j : ℕ) (g : Graph) (row : List ℕ) → edges_from j (g ++ row ∷ []) ≡ edges_from j g
    ++ edges_to (j + length g) row
edges_from-push j [] row = append-nil (edges_to j row) ∙ ap (λ n. edges_to n row) (sym (add-zero j))
edges_from-push j (p ∷ g) row =
    ap (λ es. edges_to j p ++ es) (edges_from-push (j + 1) g row)
    ∙ sym (append_assoc (edges_to j p) (edges_from (j + 1) g) (edges_to (j + 1 + length g) row))
    ∙ ap (λ n. (edges_to j p ++ edges_from (j + 1) g) ++ edges_to n row) (next_length j (length g))
  where
    next_length : (j n : ℕ) → j + 1 + n ≡ j + suc n
    next_length j n = omega arith

pub length_taken : (g : Graph) (i : ℕ) → i < length g → length (take i g) ≡ i
length_taken g i h = grind (arith, common_steps)

pub edges_more : (es fs : List Edge) (g : Graph) (i : ℕ) (row : List ℕ) → i < length g → row ≡ get_or g i row
    → es ≡ edges_from 0 (take i g) → fs ≡ es ++ edges_to i row
    → fs ≡ edges_from 0 (take (i + 1) g)
edges_more es fs g i row h r e f =
    let n : 0 + length (take i g) ≡ i = zero-add (length (take i g)) ∙ length_taken g i h in
    f ∙ ap (λ (x : List Edge). x ++ edges_to i row) e
    ∙ ap (λ (x : ℕ). edges_from 0 (take i g) ++ edges_to x row) (sym n)
    ∙ sym (edges_from-push 0 (take i g) row)
    ∙ ap (λ (x : List ℕ). edges_from 0 (take i g ++ x ∷ [])) r
    ∙ ap (edges_from 0) (sym (take_more g i row h))

-- ---- those that wait for a statement

pub rising_tail : (x : ℕ) (xs : List ℕ) → IsRising (x ∷ xs) → IsRising xs
rising_tail x [] r = tt
rising_tail x (y ∷ xs) r = r.1

first_below : (x : ℕ) (xs : List ℕ) → IsRising (x ∷ xs) → (j : ℕ) → j < length xs → x < get_or xs j 0
first_below x [] r j h = absurd (omega (arith, h))
first_below x (y ∷ xs) r zero h = r.0
first_below x (y ∷ xs) r (suc j) h = let w : y < get_or xs j 0 = first_below y xs r.1 j (omega (arith, h)) in omega
    (arith, r.0, w)

rising_pair : (xs : List ℕ) → IsRising xs → (i j : ℕ) → i < j → j < length xs → get_or xs i 0 < get_or xs j 0
rising_pair [] r i j h k = absurd (omega (arith, k))
rising_pair (x ∷ xs) r i zero h k = absurd (omega (arith, h))
rising_pair (x ∷ xs) r zero (suc j) h k = first_below x xs r j (omega (arith, k))
rising_pair (x ∷ xs) r (suc i) (suc j) h k = rising_pair xs (rising_tail x xs r) i j (omega (arith, h))
    (omega (arith, k))

not_in_front : (xs : List ℕ) → IsRising xs → (k : ℕ) → k < length xs → Contains (take k xs) (get_or xs k 0) → ⊥
not_in_front xs r k h c =
    let l : length (take k xs) ≡ k = grind (arith, common_steps) in
    let m : c.0 < k = omega (arith, c.1, l) in
    let e : get_or (take k xs) c.0 (get_or xs k 0) ≡ get_or xs c.0 (get_or xs k 0) = grind (arith, common_steps) in
    let d : get_or xs c.0 (get_or xs k 0) ≡ get_or xs c.0 0 = get_or_default xs c.0 (get_or xs k 0) 0
    (omega (arith, m, h)) in
    let w : get_or xs c.0 0 < get_or xs k 0 = rising_pair xs r c.0 k m h in
    let q : get_or xs c.0 0 ≡ get_or xs k 0 = sym d ∙ sym e ∙ c.2 in
    absurd (omega (arith, w, q))

not_among : (xs : List ℕ) → IsRising xs → (k : ℕ) → k < length xs → is_among (take k xs) (get_or xs k 0) ≡ false
not_among xs r k h = false_from_ne_true (is_among (take k xs) (get_or xs k 0))
    (λ e. not_in_front xs r k h (from_has (take k xs) (get_or xs k 0) e))

or_true : (a : Bool) → (a || true) ≡ true
or_true true = refl
or_true false = refl

among_more : (xs : List ℕ) (k i : ℕ) → k < length xs → is_among (take (k + 1) xs) i
    ≡ (is_among (take k xs) i || nat_eq (get_or xs k 0) i)
among_more xs k i h =
    ap (λ (l : List ℕ). is_among l i) (take_more xs k 0 h)
    ∙ list_any-append (λ x. nat_eq x i) (take k xs) (get_or xs k 0 ∷ [])
    ∙ ap (λ b. is_among (take k xs) i || b) (or-false (nat_eq (get_or xs k 0) i))

join_here : (froms : List ℕ) (j : ℕ) (old now new : Graph) (k : ℕ) (waiters : List ℕ) → IsRising froms
    → All (λ i. i < length old) froms → k < length froms
    → JoinsWaiters (take k froms) j old now → waiters ≡ get_or now (get_or froms k 0) [] ++ j ∷ []
    → new ≡ set now (get_or froms k 0) waiters
    → get_or new (get_or froms k 0) [] ≡ joined (is_among (take (k + 1) froms) (get_or froms k 0)) j
    (get_or old (get_or froms k 0) [])
join_here froms j old now new k waiters r a h w e f =
    let x = get_or froms k 0 in
    let m : get_or froms k 0 < length old = All-get_or (λ i. i < length old) froms k 0 h a in
    let n : get_or froms k 0 < length now = omega (arith, m, w.len) in
    let at : get_or new x [] ≡ waiters = ap (λ (g : Graph). get_or g (get_or froms k 0) []) f
    ∙ get_or-set_same now (get_or froms k 0) waiters [] n in
    let was : get_or now x [] ≡ get_or old x [] = w.each x m ∙ ap (λ b. joined b j (get_or old (get_or froms k 0) []))
    (not_among froms r k h) in
    let among : is_among (take (k + 1) froms) x ≡ true = among_more froms k (get_or froms k 0) h
    ∙ ap (λ b. is_among (take k froms) (get_or froms k 0) || b) (self_eq (get_or froms k 0))
    ∙ or_true (is_among (take k froms) (get_or froms k 0)) in
    at ∙ e ∙ ap (λ l. l ++ j ∷ []) was ∙ ap (λ b. joined b j (get_or old (get_or froms k 0) [])) (sym among)
  where
    self_eq : (n : ℕ) → nat_eq n n ≡ true
    self_eq n = grind (arith, nat_tests)

join_there : (froms : List ℕ) (j : ℕ) (old now new : Graph) (k : ℕ) (waiters : List ℕ) → k < length froms
    → JoinsWaiters (take k froms) j old now → new ≡ set now (get_or froms k 0) waiters
    → (i : ℕ) → i < length old → i ≢ get_or froms k 0 → get_or new i [] ≡ joined (is_among (take (k + 1) froms) i) j
    (get_or old i [])
join_there froms j old now new k waiters h w f i l ne =
    let at : get_or new i [] ≡ get_or now i [] = ap (λ (g : Graph). get_or g i []) f
    ∙ get_or-set_other now (get_or froms k 0) i waiters [] ne in
    let among : is_among (take (k + 1) froms) i ≡ is_among (take k froms) i = among_more froms k i h
    ∙ ap (λ b. is_among (take k froms) i || b) (other_eq (get_or froms k 0) i ne)
    ∙ or-false (is_among (take k froms) i) in
    at ∙ w.each i l ∙ ap (λ b. joined b j (get_or old i [])) (sym among)
  where
    other_eq : (x i : ℕ) → i ≢ x → nat_eq x i ≡ false
    other_eq x i n = grind (arith, nat_tests)

same_or_other : (i x : ℕ) → (i ≡ x) ⊎ (i ≢ x)
same_or_other i x = split (nat_eq i x) refl
  where
    split : (t : Bool) → nat_eq i x ≡ t → (i ≡ x) ⊎ (i ≢ x)
    split true e = inl (grind (arith, nat_tests))
    split false e = inr (λ q. grind (arith, nat_tests))

join_each : (froms : List ℕ) (j : ℕ) (old now new : Graph) (k : ℕ) (waiters : List ℕ) → IsRising froms
    → All (λ i. i < length old) froms → k < length froms
    → JoinsWaiters (take k froms) j old now → waiters ≡ get_or now (get_or froms k 0) [] ++ j ∷ []
    → new ≡ set now (get_or froms k 0) waiters
    → (i : ℕ) → i < length old → (i ≡ get_or froms k 0) ⊎ (i ≢ get_or froms k 0)
    → get_or new i [] ≡ joined (is_among (take (k + 1) froms) i) j (get_or old i [])
join_each froms j old now new k waiters r a h w e f i l (inl q) =
    subst (λ (n : ℕ). get_or new n [] ≡ joined (is_among (take (k + 1) froms) n) j (get_or old n [])) (sym q)
    (join_here froms j old now new k waiters r a h w e f)
join_each froms j old now new k waiters r a h w e f i l (inr q) = join_there froms j old now new k waiters h w f i l q

pub join_more : (froms : List ℕ) (j : ℕ) (old now new : Graph) (k : ℕ) (waiters : List ℕ) → IsRising froms
    → All (λ i. i < length old) froms → k < length froms
    → JoinsWaiters (take k froms) j old now → waiters ≡ get_or now (get_or froms k 0) [] ++ j ∷ []
    → new ≡ set now (get_or froms k 0) waiters
    → JoinsWaiters (take (k + 1) froms) j old new
join_more froms j old now new k waiters r a h w e f = record {
  len = ap length f ∙ length-set now (get_or froms k 0) waiters ∙ w.len;
  each = λ i l. join_each froms j old now new k waiters r a h w e f i l (same_or_other i (get_or froms k 0));
}

-- ---- those that wait for a statement, with one more list

past_end : (g : Graph) (j i : ℕ) → Contains (preds_in g j) i → j < length g
past_end [] j i h = absurd (empty_has_nothing i h)
past_end (p ∷ g) zero i h = omega arith
past_end (p ∷ g) (suc j) i h = let w : j < length g = past_end g j i h in omega (arith, w)

rising_push : (xs : List ℕ) (y : ℕ) → IsRising xs → ((x : ℕ) → Contains xs x → x < y) → IsRising (xs ++ y ∷ [])
rising_push [] y r h = tt
rising_push (x ∷ []) y r h = (h x (here x []), tt)
rising_push (x ∷ z ∷ xs) y r h = (r.0, rising_push (z ∷ xs) y r.1 (λ w k. h w (there x (z ∷ xs) w k)))

abbrev Waits : Graph → ℕ → ℕ → Type 0
Waits g j i = Contains (preds_in g j) i

-- with one more list, statement j waits as before, or is the new one
waits_cases : (g : Graph) (row : List ℕ) (j i : ℕ) → Waits (g ++ row ∷ []) j i → (j < length g + 1)
    → (j < length g) ⊎ (j ≡ length g) → Waits g j i ⊎ ((j ≡ length g) × Contains row i)
waits_cases g row j i h l (inl m) =
    inl (subst (λ (r : List ℕ). Contains r i) (get_or_append_left g (row ∷ []) [] j m) h)
waits_cases g row j i h l (inr e) =
    inr (
      e,
      subst (λ (r : List ℕ). Contains r i)
          (ap (λ n. get_or (g ++ row ∷ []) n []) e ∙ get_or_push g row [] (length g) refl) h,
    )

waits_from : (g : Graph) (row : List ℕ) (j i : ℕ) → Waits (g ++ row ∷ []) j i
    → Waits g j i ⊎ ((j ≡ length g) × Contains row i)
waits_from g row j i h =
    let l : j < length (g ++ row ∷ []) = past_end (g ++ row ∷ []) j i h in
    let m : j < length g + 1 = omega (arith, l, length-append g (row ∷ []))
    in waits_cases g row j i h m (below_or_at j (length g) m)

waits_before : (g : Graph) (row : List ℕ) (j i : ℕ) → Waits g j i → Waits (g ++ row ∷ []) j i
waits_before g row j i h = subst (λ (r : List ℕ). Contains r i)
    (sym (get_or_append_left g (row ∷ []) [] j (past_end g j i h))) h

waits_last : (g : Graph) (row : List ℕ) (i : ℕ) → Contains row i → Waits (g ++ row ∷ []) (length g) i
waits_last g row i h = subst (λ (r : List ℕ). Contains r i) (sym (get_or_push g row [] (length g) refl)) h

succs_joined : (g : Graph) (i : ℕ) (row waiters : List ℕ) → AreSuccs g i waiters → (t : Bool) → is_among row i ≡ t
    → AreSuccs (g ++ row ∷ []) i (joined t (length g) waiters)
succs_joined g i row waiters a true e = record {
  rising = rising_push waiters (length g) a.rising (λ j h. past_end g j i ((a.exact j).0 h));
  exact = λ j. (
    (λ h. elim (Contains-push_cases waiters (length g) j h) [
      | inl k ↦ waits_before g row j i ((a.exact j).0 k)
      | inr q ↦ subst (λ (n : ℕ). Waits (g ++ row ∷ []) n i) q (waits_last g row i (from_has row i e))
    ]),
    (λ h. elim (waits_from g row j i h) [
      | inl k ↦ Contains-append_left waiters (length g ∷ []) j ((a.exact j).1 k)
      | inr k ↦ subst (λ (n : ℕ). Contains (waiters ++ length g ∷ []) n) (sym k.0) (Contains-push waiters (length g))
    ]),
  );
}
succs_joined g i row waiters a false e = record {
  rising = a.rising;
  exact = λ j. (
    (λ h. waits_before g row j i ((a.exact j).0 h)),
    (λ h. elim (waits_from g row j i h) [
      | inl k ↦ (a.exact j).1 k
      | inr k ↦ absurd (true_false (is_among row i) (has_from row i k.1) e)
    ]),
  );
}
  where
    true_false : (b : Bool) → b ≡ true → b ≡ false → ⊥
    true_false b x y = cc

pub succs_more : (g : Graph) (i j : ℕ) (row waiters more : List ℕ) → AreSuccs (take j g) i waiters → j < length g
    → row ≡ get_or g j row → more ≡ joined (is_among row i) j waiters
    → AreSuccs (take (j + 1) g) i more
succs_more g i j row waiters more a h r m =
    let s : AreSuccs (take j g ++ row ∷ []) i (joined (is_among row i) (length (take j g)) waiters) = succs_joined
    (take j g) i row waiters a (is_among row i) refl in
    let n : length (take j g) ≡ j = length_taken g j h in
    let k : take j g ++ row ∷ [] ≡ take (j + 1) g = ap (λ (x : List ℕ). take j g ++ x ∷ []) r
    ∙ sym (take_more g j row h) in
    let b : joined (is_among row i) (length (take j g)) waiters
    ≡ more = ap (λ (x : ℕ). joined (is_among row i) x waiters) n ∙ sym m in
    subst (λ (x : List ℕ). AreSuccs (take (j + 1) g) i x) b
    (subst (λ (x : Graph). AreSuccs x i (joined (is_among row i) (length (take j g)) waiters)) k s)

-- the graph of a block leads from earlier statements to later ones
pub earlier : (b : BlockUses) (g : Graph) → ((j : ℕ) → j < length g → Preds b j (preds_in g j)) → AreEarlier g
earlier b g h = λ j l. (
  (h j l).rising,
  All-from_get_or (λ i. i < j) (preds_in g j) 0
      (λ k m. (((h j l).exact (get_or (preds_in g j) k 0)).0 (Contains-get_or (preds_in g j) k 0 m)).before),
)

-- ---- what statements use, by their numbers

-- the footprint of statement i
pub footprint_at : (uses : BlockUses) (fs : List Footprint) (i : ℕ) (f : Footprint) → i < length fs → f ≡ get_or fs i f
    → AreFootprints uses (length fs) fs → IsFootprintOf (uses i) f.uses
footprint_at uses fs i f l e a = a.1 i f (slice_get_read fs (length fs) i f refl l e)
