-- Facts on a value that moves from a local to a place: it may be taken out before it is written.
use Rattle.std.proofs.Common.{◌≡◌, refl, sym, ap, ◌∙◌, ℕ, nat_eq, Bool, true, false, if◌then◌else◌, List, Option, None}
use Rattle.std.proofs.Common.{Some}
use Rattle.std.proofs.Common.{slice_get, option_map}
use Rattle.std.proofs.lemmas.Bool.{eqb-true}
use Rattle.ae_semantics.specs.Values.{Val, OfInt, OfBool, Null, Owned, Member, Tree, Store, put_at}
use Rattle.ae_semantics.specs.Places.{Outcome, Fine, ◌>>=◌, there, low, bind, Bound, State, with, with_bound, members}
use Rattle.ae_semantics.specs.Places.{with_member, rewrite_member, group_of, Base, InLocal, InGroup, write_in}
use Rattle.ae_stores.specs.Stand.{is_local, whole_at}
use Rattle.ae_stores.proofs.from_text.Basics.{functions_agree, no_test_is_both}
use Rattle.ae_stores.proofs.OutcomeLemmas.{fine_first}

-- of two changes under one name the last one stays
the_last_stays : {A : Type 0} (x : ℕ) (a b : A) (old : ℕ → A) → with x a (with x b old) ≡ with x a old
the_last_stays x a b old = functions_agree (with x a (with x b old)) (with x a old) (λ y. by_test y (nat_eq x y))
  where
    by_test : (y : ℕ) (t : Bool) → (if t then a else (if t then b else old y)) ≡ (if t then a else old y)
    by_test y true = refl
    by_test y false = refl

-- changes under two names are the same either way round
either_way_round : {A : Type 0} (x y : ℕ) (a b : A) (old : ℕ → A) → nat_eq x y ≡ false
    → with y b (with x a old) ≡ with x a (with y b old)
either_way_round {A} x y a b old other = functions_agree (with y b (with x a old)) (with x a (with y b old))
    (λ z. by_tests z (nat_eq x z) (nat_eq y z) refl refl)
  where
    by_tests : (z : ℕ) (t u : Bool) → nat_eq x z ≡ t → nat_eq y z ≡ u
        → (if u then b else (if t then a else old z)) ≡ (if t then a else (if u then b else old z))
    by_tests z true true e h =
        absurd (no_test_is_both (nat_eq x y) (ap (λ n. nat_eq x n) (eqb-true y z h) ∙ e) other)
    by_tests z true false e h = refl
    by_tests z false true e h = refl
    by_tests z false false e h = refl

-- a write to a local, once another local has no value
other_local : (s t : State) (x y : ℕ) (fields : List ℕ) (v : Val) → nat_eq x y ≡ false
    → write_in s (InLocal y) fields v ≡ Fine t
    → write_in (with_bound x None s) (InLocal y) fields v ≡ Fine (with_bound x None t)
other_local s t x y fields v other e =
    let z : State = with_bound x None s in
    let b = fine_first (there (s.locals y)) (λ b. bind y b.form (put_at fields v b.value) s) t e in
    let w = fine_first (low (put_at fields v b.0.value))
    (λ w. Fine (with_bound y (Some (record { form = b.0.form; value = w })) s)) t b.2 in
    let new : Option Bound = Some (record { form = b.0.form; value = w.0 }) in
    ap (λ (c : Bool). there (if c then none else s.locals y) >>= λ b. bind y b.form (put_at fields v b.value) z) other
    ∙ ap (λ (o : Outcome Bound). o >>= λ b. bind y b.form (put_at fields v b.value) z) b.1
    ∙ ap (λ (o : Outcome Val). o >>= λ w. Fine (with_bound y (Some (record { form = b.0.form; value = w })) z)) w.1
    ∙ ap (λ (l : ℕ → Option Bound). Fine (record s { locals = l })) (either_way_round x y none new s.locals other)
    ∙ ap (λ (o : Outcome State). o >>= λ u. Fine (with_bound x None u)) w.2
  where
    none : Option Bound
    none = None

-- a member's group with that member changed, once a local has no value
member_after : (s t : State) (x g n : ℕ) (st : Store) (w : Val) → with_member s g n st w ≡ Fine t
    → with_member (with_bound x None s) g n st w ≡ Fine (with_bound x None t)
member_after s t x g n st (Owned u) e = ap (λ (o : Outcome State). o >>= λ z. Fine (with_bound x None z)) e
member_after s t x g n st (OfInt m) e = absurd (cc e)
member_after s t x g n st (OfBool b) e = absurd (cc e)
member_after s t x g n st Null e = absurd (cc e)
member_after s t x g n st (Member m) e = absurd (cc e)

-- a write to a member, once a local has no value
member_too : (s t : State) (x g n : ℕ) (fields : List ℕ) (v : Val) → write_in s (InGroup g n) fields v ≡ Fine t
    → write_in (with_bound x None s) (InGroup g n) fields v ≡ Fine (with_bound x None t)
member_too s t x g n fields v e =
    let z : State = with_bound x None s in
    let a = fine_first (there (members (group_of s g))) (rewrite_member s g n fields v) t e in
    let b = fine_first (there (slice_get a.0 n))
    (λ u. low (put_at fields v (Owned u)) >>= with_member s g n a.0) t a.2 in
    let w = fine_first (low (put_at fields v (Owned b.0))) (with_member s g n a.0) t b.2 in
    ap (λ (o : Outcome Store). o >>= rewrite_member z g n fields v) a.1
    ∙ ap (λ (o : Outcome Tree). o >>= λ u. low (put_at fields v (Owned u)) >>= with_member z g n a.0) b.1
    ∙ ap (λ (o : Outcome Val). o >>= with_member z g n a.0) w.1
    ∙ member_after s t x g n a.0 w.0 w.2

-- a write elsewhere may come after the local has lost its value
pub moved_before : (s t : State) (x : ℕ) (base : Base) (fields : List ℕ) (v : Val) → is_local x base ≡ false
    → write_in s base fields v ≡ Fine t
    → write_in (with_bound x None s) base fields v ≡ Fine (with_bound x None t)
moved_before s t x (InLocal y) fields v other e = other_local s t x y fields v other e
moved_before s t x (InGroup g n) fields v other e = member_too s t x g n fields v e

-- a write into the local that loses its value leaves nothing
local_lost : (s t : State) (x : ℕ) (fields : List ℕ) (v : Val) → write_in s (InLocal x) fields v ≡ Fine t
    → with_bound x None t ≡ with_bound x None s
local_lost s t x fields v e =
    let b = fine_first (there (s.locals x)) (λ b. bind x b.form (put_at fields v b.value) s) t e in
    let w = fine_first (low (put_at fields v b.0.value))
    (λ w. Fine (with_bound x (Some (record { form = b.0.form; value = w })) s)) t b.2 in
    let new : Option Bound = Some (record { form = b.0.form; value = w.0 }) in
    let same : with_bound x new s ≡ t = cc (w.2) in
    ap (with_bound x None) (sym same)
    ∙ ap (λ (l : ℕ → Option Bound). record s { locals = l }) (the_last_stays x none new s.locals)
  where
    none : Option Bound
    none = None

-- the same where the base is that local
pub moved_into_itself : (s t : State) (x : ℕ) (base : Base) (fields : List ℕ) (v : Val) → is_local x base ≡ true
    → write_in s base fields v ≡ Fine t → with_bound x None t ≡ with_bound x None s
moved_into_itself s t x (InLocal y) fields v own e =
    let same : x ≡ y = eqb-true x y own in
    (local_lost) s t x fields v (ap (λ n. write_in s (InLocal n) fields v) same ∙ e)
moved_into_itself s t x (InGroup g n) fields v own e = absurd (cc own)

-- what another base's places lie in is the same once a local has no value
pub whole_besides : (s : State) (x : ℕ) (base : Base) → is_local x base ≡ false
    → whole_at (with_bound x None s) base ≡ whole_at s base
whole_besides s x (InLocal y) other =
    ap (λ (t : Bool). option_map (λ (b : Bound). b.value) (if t then none else s.locals y)) other
  where
    none : Option Bound
    none = None
whole_besides s x (InGroup g n) other = refl
