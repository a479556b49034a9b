-- For which statements the uses of a statement wait.
use Rattle.std.proofs.Common.{◌+◌, take, get_or, add-one, ◌↔◌}
use Rattle.std.proofs.lemmas.List.{take_more}
use Rattle.std.proofs.Common.{◌≡◌, ℕ, zero, suc, ◌<◌, ◌⊎◌, inl, inr, Bool, true, false, not}
use Rattle.std.proofs.Common.{if◌then◌else◌, List, [], ◌∷◌, ◌++◌, length, Option, None, Some, refl, sym, ap, ◌∙◌}
use Rattle.std.proofs.Common.{subst, arith}
use Rattle.std.specs.List.{Contains, filter}
use Rattle.std.proofs.lemmas.List.Elements.{Contains-append_left, Contains-push, Contains-push_cases}
use Rattle.std.proofs.lemmas.Bool.Decides.{nat_tests}
use Rattle.ae_rules.specs.declared.uses.Resource.{Resource}
use Rattle.ae_rules.specs.declared.uses.Resource.TheVariants.{Local, Group}
use Rattle.ae_rules.specs.declared.uses.Mode.{Mode}
use Rattle.ae_rules.specs.declared.uses.Use.{Use}
use Rattle.ae_rules.specs.Edges.{Uses, BlockUses, Edge, Preds, are_compatible, is_strong, IsConflict, IsWeak}
use Rattle.ae_graph.specs.declared.waits.Past.{Past}
use Rattle.ae_graph.specs.Rising.{IsRisingOf}
use Rattle.ae_uses.specs.Footprint.{IsFootprintOf, IsBelow, AreInOrder}
use Rattle.ae_graph.specs.Opened.{added, added_if, opened, is_same, after_uses, waited, waited_by}
use Rattle.ae_graph.proofs.from_uses.Elements.{here, there, uncons, in_map, from_map}
use Rattle.ae_graph.proofs.Elements.{in_filter, from_filter, in_flat_map, from_flat_map}
use Rattle.std.proofs.lemmas.Bool.{eqb-true, not-true, not_from_false}
use Rattle.ae_graph.proofs.from_text.Basics.{no_test_is_both, empty_has_nothing, below_or_last}

-- ---- open uses

-- a use before statement j, with no use between that shuts out every other
pub record IsOpen (b : BlockUses) (j : ℕ) (r : Resource) (p : Past) : Type 0 where
  pub before : p.stmt < j
  pub used : b p.stmt r ≡ Some p.mode
  pub clear : (k : ℕ) → p.stmt < k → k < j → IsWeak (b k r)

clear_at : (b : BlockUses) (j : ℕ) (r : Resource) (p : Past) → IsOpen b j r p → IsWeak (b j r) → (k : ℕ)
    → p.stmt < k → (k < j) ⊎ (k ≡ j) → IsWeak (b k r)
clear_at b j r p o w k l (inl m) = o.clear k l m
clear_at b j r p o w k l (inr e) = subst (λ (n : ℕ). IsWeak (b n r)) (sym e) w

later : (b : BlockUses) (j : ℕ) (r : Resource) (p : Past) → IsOpen b j r p → IsWeak (b j r) → IsOpen b (suc j) r p
later b j r p o w = record {
  before = omega (arith, o.before);
  used = o.used;
  clear = λ k l m. clear_at b j r p o w k l (below_or_last k j m);
}

earlier : (b : BlockUses) (j : ℕ) (r : Resource) (p : Past) → IsOpen b (suc j) r p → p.stmt < j → IsOpen b j r p
earlier b j r p o h = record { before = h; used = o.used; clear = λ k l m. o.clear k l (omega (arith, m)) }

latest : (b : BlockUses) (j : ℕ) (r : Resource) (m : Mode) (p : Past) → b j r ≡ Some m
    → record { stmt = j; mode = m } ≡ p → IsOpen b (suc j) r p
latest b j r m p e q = subst (λ (x : Past). IsOpen b (suc j) r x) q
    (record { before = omega arith; used = e; clear = λ k l n. absurd (omega (arith, l, n)) })

from_added : (ps : List Past) (n : Past) (p : Past) (t : Bool) → Contains (if t then n ∷ [] else ps ++ n ∷ []) p
    → ((t ≡ false) × Contains ps p) ⊎ (n ≡ p)
from_added ps n p true h = elim (uncons n [] p h) [ inl q ↦ inr q | inr k ↦ absurd (empty_has_nothing p k) ]
from_added ps n p false h = elim (Contains-push_cases ps n p h) [ inl k ↦ inl (refl, k) | inr q ↦ inr q ]

last_added : (ps : List Past) (n : Past) (t : Bool) → Contains (if t then n ∷ [] else ps ++ n ∷ []) n
last_added ps n true = here n []
last_added ps n false = Contains-push ps n

still_there : (ps : List Past) (n : Past) (p : Past) (t : Bool) → t ≡ false → Contains ps p
    → Contains (if t then n ∷ [] else ps ++ n ∷ []) p
still_there ps n p true e h = absurd (cc)
still_there ps n p false e h = Contains-append_left ps (n ∷ []) p h

weak_is : (o u : Option Mode) → u ≡ o → IsWeak o → IsWeak u
weak_is o u e h = subst IsWeak (sym e) h

open_step : (b : BlockUses) (j : ℕ) (r : Resource) (p : Past) (o : Option Mode) → b j r ≡ o
    → (Contains (opened b j r) p → IsOpen b j r p)
    → Contains (added_if j (opened b j r) o) p → IsOpen b (suc j) r p
open_step b j r p None e go h = later b j r p (go h) (weak_is None (b j r) e tt)
open_step b j r p (Some m) e go h =
    elim (from_added (opened b j r) (record { stmt = j; mode = m }) p (is_strong m) h) [
      | inl k ↦ later b j r p (go k.1) (weak_is (Some m) (b j r) e k.0)
      | inr q ↦ latest b j r m p e q
    ]

-- what is kept is open
pub is_open : (b : BlockUses) (j : ℕ) (r : Resource) (p : Past) → Contains (opened b j r) p → IsOpen b j r p
is_open b zero r p h = absurd (empty_has_nothing p h)
is_open b (suc j) r p h = open_step b j r p (b j r) refl (is_open b j r p) h

kept_step : (b : BlockUses) (j : ℕ) (r : Resource) (p : Past) (o : Option Mode) → b j r ≡ o → IsOpen b (suc j) r p
    → (p.stmt < j) ⊎ (p.stmt ≡ j)
    → (IsOpen b j r p → Contains (opened b j r) p) → Contains (added_if j (opened b j r) o) p
kept_step b j r p None e o (inl l) go = go (earlier b j r p o l)
kept_step b j r p None e o (inr q) go = let w : b j r
    ≡ Some p.mode = subst (λ (n : ℕ). b n r ≡ Some p.mode) q o.used in absurd (cc)
kept_step b j r p (Some m) e o (inl l) go =
    let w : IsWeak (Some m) = subst IsWeak e (o.clear j l (omega arith))
    in still_there (opened b j r) (record { stmt = j; mode = m }) p (is_strong m) w (go (earlier b j r p o l))
kept_step b j r p (Some m) e o (inr q) go =
    let w : b j r ≡ Some p.mode = subst (λ (n : ℕ). b n r ≡ Some p.mode) q o.used in
    let n : p.mode ≡ m = cc in
    let same : record { stmt = j; mode = m } ≡ p = λ i. record { stmt = sym q i; mode = sym n i } in
    subst (λ (x : Past). Contains (added (opened b j r) (record { stmt = j; mode = m })) x) same
    (last_added (opened b j r) (record { stmt = j; mode = m }) (is_strong m))

-- what is open is kept
pub is_kept : (b : BlockUses) (j : ℕ) (r : Resource) (p : Past) → IsOpen b j r p → Contains (opened b j r) p
is_kept b zero r p o = absurd (omega (arith, o.before))
is_kept b (suc j) r p o = kept_step b j r p (b j r) refl o (below_or_last p.stmt j o.before) (is_kept b j r p)

-- ---- the statements for which uses wait

-- a use that is kept, of this statement, in a mode that does not go with m
pub from_waited : (m : Mode) (ps : List Past) (i : ℕ) → Contains (waited m ps) i → (p : Past) × Contains ps p
    × (p.stmt ≡ i) × (are_compatible p.mode m ≡ false)
from_waited m ps i h =
    let f = from_map (λ (p : Past). p.stmt) (filter (λ p. not (are_compatible p.mode m)) ps) i h in
    let g = from_filter (λ (p : Past). not (are_compatible p.mode m)) ps f.0 f.1 in
    (f.0, g.0, f.2, not-true (are_compatible f.0.mode m) g.1)

pub in_waited : (m : Mode) (ps : List Past) (p : Past) → Contains ps p → are_compatible p.mode m ≡ false
    → Contains (waited m ps) p.stmt
in_waited m ps p h e =
    in_map (λ (q : Past). q.stmt) (filter (λ q. not (are_compatible q.mode m)) ps) p
    (in_filter (λ (q : Past). not (are_compatible q.mode m)) ps p h (not_from_false (are_compatible p.mode m) e))

conflict_of : (x y : Option Mode) (m n : Mode) → x ≡ Some m → y ≡ Some n → are_compatible m n ≡ false → IsConflict x y
conflict_of x y m n e f h = subst (λ (o : Option Mode). IsConflict o y) (sym e)
    (subst (λ (o : Option Mode). IsConflict (Some m) o) (sym f) h)

-- both are uses, in modes that do not go together
pub record Clash (x y : Option Mode) : Type 0 where
  pub first : Mode
  pub second : Mode
  pub first_is : x ≡ Some first
  pub second_is : y ≡ Some second
  pub apart : are_compatible first second ≡ false

clash : (x y : Option Mode) → IsConflict x y → Clash x y
clash None y h = absurd h
clash (Some m) None h = absurd h
clash (Some m) (Some n) h = record { first = m; second = n; first_is = refl; second_is = refl; apart = h }

edge_from : (b : BlockUses) (j : ℕ) (uses : List Use) → IsFootprintOf (b j) uses
    → (i : ℕ) → Contains (waited_by (opened b j) uses) i → Edge b i j
edge_from b j uses f i h =
    let g = from_flat_map (λ (u : Use). waited u.mode (opened b j u.what)) uses i h in
    let u = g.0 in
    let w = from_waited u.mode (opened b j u.what) i g.2 in
    let o : IsOpen b j u.what w.0 = is_open b j u.what w.0 w.1 in
    let used : b j u.what ≡ Some u.mode = (f.exact u).0 g.1 in
    subst (λ (n : ℕ). Edge b n j) w.2 (record {
      before = o.before;
      on = u.what;
      conflict = conflict_of _ _ w.0.mode u.mode o.used used w.3;
      clear = o.clear;
    })

to_edge : (b : BlockUses) (j : ℕ) (uses : List Use) → IsFootprintOf (b j) uses
    → (i : ℕ) → Edge b i j → Contains (waited_by (opened b j) uses) i
to_edge b j uses f i e =
    let c : Clash (b i e.on) (b j e.on) = clash _ _ e.conflict in
    let p : Past = record { stmt = i; mode = c.first } in
    let u : Use = record { what = e.on; mode = c.second } in
    let o : IsOpen b j e.on p = record { before = e.before; used = c.first_is; clear = e.clear } in
    let k : Contains uses u = (f.exact u).1 c.second_is in
    in_flat_map (λ (v : Use). waited v.mode (opened b j v.what)) uses u i k
    (in_waited c.second (opened b j e.on) p (is_kept b j e.on p o) c.apart)

-- the statements for which the uses of statement j wait are those from which an edge leads to it
pub preds_are : (b : BlockUses) (j : ℕ) (uses : List Use) (waits : List ℕ) → IsFootprintOf (b j) uses
    → IsRisingOf (waited_by (opened b j) uses) waits → Preds b j waits
preds_are b j uses waits f r = record {
  rising = r.in_order;
  exact = λ i. ((λ h. edge_from b j uses f i ((r.same i).0 h)), (λ e. (r.same i).1 (to_edge b j uses f i e)));
}

-- ---- one more statement

below_trans : (x y z : Resource) → IsBelow x y → IsBelow y z → IsBelow x z
below_trans (Local x) (Local y) (Local z) h k = omega (arith, h, k)
below_trans (Local x) (Local y) (Group z) h k = tt
below_trans (Local x) (Group y) (Local z) h k = absurd k
below_trans (Local x) (Group y) (Group z) h k = tt
below_trans (Group x) (Local y) z h k = absurd h
below_trans (Group x) (Group y) (Local z) h k = absurd k
below_trans (Group x) (Group y) (Group z) h k = omega (arith, h, k)

not_same : (x y : Resource) → IsBelow x y → is_same y x ≡ false
not_same (Local x) (Local y) h = grind (arith, nat_tests, h)
not_same (Local x) (Group y) h = refl
not_same (Group x) (Local y) h = absurd h
not_same (Group x) (Group y) h = grind (arith, nat_tests, h)

same_is : (x y : Resource) → is_same x y ≡ true → x ≡ y
same_is (Local x) (Local y) e = ap Local (eqb-true x y e)
same_is (Local x) (Group y) e = absurd (cc)
same_is (Group x) (Local y) e = absurd (cc)
same_is (Group x) (Group y) e = ap Group (eqb-true x y e)

same_self : (x : Resource) → is_same x x ≡ true
same_self (Local x) = grind (arith, nat_tests)
same_self (Group x) = grind (arith, nat_tests)

-- after one more of the uses
abbrev pub one_more : ℕ → Resource → Use → List Past → List Past
one_more j r u ps = if is_same u.what r then added ps (record { stmt = j; mode = u.mode }) else ps

after_uses-push : (j : ℕ) (r : Resource) (ps : List Past) (us : List Use) (u : Use) → after_uses j r ps (us ++ u ∷ [])
    ≡ one_more j r u (after_uses j r ps us)
after_uses-push j r ps [] u = refl
after_uses-push j r ps (v ∷ us) u = after_uses-push j r (one_more j r v ps) us u

pub after_uses-more : (j : ℕ) (r : Resource) (ps qs rs : List Past) (us : List Use) (i : ℕ) (d : Use) → i < length us
    → qs ≡ after_uses j r ps (take i us) → rs ≡ one_more j r (get_or us i d) qs
    → rs ≡ after_uses j r ps (take (i + 1) us)
after_uses-more j r ps qs rs us i d h e f =
    f ∙ ap (one_more j r (get_or us i d)) e ∙ sym (after_uses-push j r ps (take i us) (get_or us i d))
    ∙ ap (after_uses j r ps) (sym (take_more us i d h))

tail_in_order : (u : Use) (us : List Use) → AreInOrder (u ∷ us) → AreInOrder us
tail_in_order u [] h = tt
tail_in_order u (v ∷ us) h = h.1

above : (u : Use) (us : List Use) → AreInOrder (u ∷ us) → (v : Use) → Contains us v → IsBelow u.what v.what
above u [] h v k = absurd (empty_has_nothing v k)
above u (w ∷ us) h v k =
    elim (uncons w us v k) [
      | inl q ↦ subst (λ (x : Use). IsBelow u.what x.what) q h.0
      | inr t ↦ below_trans u.what w.what v.what h.0 (above w us h.1 v t)
    ]

choice_false : (t : Bool) (ps qs : List Past) → t ≡ false → (if t then ps else qs) ≡ qs
choice_false true ps qs e = absurd (cc)
choice_false false ps qs e = refl

choice_true : (t : Bool) (ps qs : List Past) → t ≡ true → (if t then ps else qs) ≡ ps
choice_true true ps qs e = refl
choice_true false ps qs e = absurd (cc)

passed : (j : ℕ) (r : Resource) (ps : List Past) (us : List Use)
    → ((v : Use) → Contains us v → is_same v.what r ≡ false) → after_uses j r ps us ≡ ps
passed j r ps [] h = refl
passed j r ps (u ∷ us) h =
    ap (λ (qs : List Past). after_uses j r qs us) (choice_false (is_same u.what r) _ ps (h u (here u us)))
    ∙ passed j r ps us (λ v k. h v (there u us v k))

-- the list has exactly this use of the resource
abbrev IsUse : List Use → Resource → Option Mode → Type 0
IsUse us r o = (m : Mode) → Contains us (record { what = r; mode = m }) ↔ (o ≡ Some m)

after_none : (j : ℕ) (r : Resource) (ps : List Past) (o : Option Mode) → IsUse [] r o → ps ≡ added_if j ps o
after_none j r ps None h = refl
after_none j r ps (Some m) h = absurd (empty_has_nothing _ ((h m).1 refl))

not_first : (u : Use) (us : List Use) (r : Resource) (m : Mode) → is_same u.what r ≡ false
    → (u ≡ record { what = r; mode = m }) ⊎ Contains us (record { what = r; mode = m })
    → Contains us (record { what = r; mode = m })
not_first u us r m q (inl e) =
    let s : is_same u.what r ≡ true = subst (λ (x : Resource). is_same u.what x ≡ true) (ap (λ (v : Use). v.what) e)
    (same_self u.what) in
    absurd (no_test_is_both (is_same u.what r) s q)
not_first u us r m q (inr k) = k

after_first : (j : ℕ) (r : Resource) (ps : List Past) (u : Use) (us : List Use) (o : Option Mode)
    → AreInOrder (u ∷ us) → IsUse (u ∷ us) r o
    → (AreInOrder us → IsUse us r o → after_uses j r ps us ≡ added_if j ps o)
    → (t : Bool) → is_same u.what r ≡ t → after_uses j r ps (u ∷ us) ≡ added_if j ps o
after_first j r ps u us o h e go true q =
    let s : u.what ≡ r = same_is u.what r q in
    let k : Contains (u ∷ us) (record { what = r; mode = u.mode }) =
    subst (λ (x : Resource). Contains (u ∷ us) (record { what = x; mode = u.mode })) s (here u us) in
    let is : o ≡ Some u.mode = (e u.mode).0 k in
    ap (λ (qs : List Past). after_uses j r qs us)
    (choice_true (is_same u.what r) (added ps (record { stmt = j; mode = u.mode })) ps q)
    ∙ passed j r (added ps (record { stmt = j; mode = u.mode })) us
    (λ v c. subst (λ (x : Resource). is_same v.what x ≡ false) s (not_same u.what v.what (above u us h v c)))
    ∙ ap (added_if j ps) (sym is)
after_first j r ps u us o h e go false q =
    ap (λ (qs : List Past). after_uses j r qs us)
    (choice_false (is_same u.what r) (added ps (record { stmt = j; mode = u.mode })) ps q)
    ∙ go (tail_in_order u us h) (λ m. (
      (λ k. (e m).0 (there u us _ k)),
      (λ p. not_first u us r m q (uncons u us _ ((e m).1 p))),
    ))

after_all : (j : ℕ) (r : Resource) (ps : List Past) (us : List Use) (o : Option Mode) → AreInOrder us → IsUse us r o
    → after_uses j r ps us ≡ added_if j ps o
after_all j r ps [] o h e = after_none j r ps o e
after_all j r ps (u ∷ us) o h e = after_first j r ps u us o h e (λ i k. after_all j r ps us o i k)
    (is_same u.what r) refl

-- after the uses of a statement one more use of each resource is kept, if it has one
pub after_footprint : (j : ℕ) (r : Resource) (ps : List Past) (u : Uses) (us : List Use) → IsFootprintOf u us
    → after_uses j r ps us ≡ added_if j ps (u r)
after_footprint j r ps u us f = after_all j r ps us (u r) f.in_order (λ m. f.exact (record { what = r; mode = m }))

pub opened_next : (b : BlockUses) (j : ℕ) (us : List Use) (f g : Resource → List Past) → IsFootprintOf (b j) us
    → ((r : Resource) → f r ≡ opened b j r) → ((r : Resource) → g r ≡ after_uses j r (f r) us) → (r : Resource)
    → g r ≡ opened b (j + 1) r
opened_next b j us f g k h e r =
    e r ∙ after_footprint j r (f r) (b j) us k ∙ ap (λ ps. added_if j ps (b j r)) (h r)
    ∙ ap (λ n. opened b n r) (sym (add-one j))

-- what a turn over statement j finds
pub preds_found : (b : BlockUses) (j : ℕ) (us : List Use) (f : Resource → List Past) (waits : List ℕ)
    → IsFootprintOf (b j) us
    → ((r : Resource) → f r ≡ opened b j r) → IsRisingOf (waited_by f us) waits → Preds b j waits
preds_found b j us f waits k h r =
    let same : f ≡ opened b j = λ i. λ x. h x i in preds_are b j us waits k
    (subst (λ (x : Resource → List Past). IsRisingOf (waited_by x us) waits) same r)
