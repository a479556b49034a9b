-- What a call takes from its roots comes back.
use Rattle.std.proofs.Common.{◌≡◌, refl, ap, ◌∙◌, subst, ℕ, nat_eq, Bool, true, false, ◌&&◌, not, if◌then◌else◌}
use Rattle.std.proofs.Common.{List, [], ◌∷◌, ◌++◌, Option, None, Some}
use Rattle.std.specs.Prelude.{option_map}
use Rattle.std.proofs.lemmas.Bool.{eqb-true, not-true, cond-true, cond-false}
use Rattle.ae_tree.specs.declared.form.Perm.TheVariants as need
use Rattle.ae_rules.specs.declared.held.Held.{Held}
use Rattle.ae_rules.specs.declared.held.Held.TheVariants as held
use Rattle.ae_rules.specs.Verdict.{given}
use Rattle.ae_rules.specs.Shares.{Share, splits, joins}
use Rattle.ae_rules.specs.Context.{Local, Context, held_in, with_held}
use Rattle.ae_rules.specs.Calls.{LentPart, given_back, after_call}
use Rattle.ae_rules.specs.Laws.{none_away, CallsGiveBack, none_of, GivenAwayIsGone}
use Rattle.ae_rules.proofs.LawLemmas.{taken_is_given_back}
use Rattle.ae_rules.proofs.from_text.Basics.{first_of_both, second_of_both, number_is_itself}

abbrev holding : Held → Local → Local
holding h l = record l { held = h }

-- what is held of a local, where there is one
abbrev held_of_local : Option Local → Held
held_of_local o = given o held.None (λ (l : Local). l.held)

held_at : (r : ℕ) (h : Held) (c : Context) → (with_held r h c).local r ≡ option_map (holding h) (c.local r)
held_at r h c = cond-true (nat_eq r r) _ _ (number_is_itself r)

held_elsewhere : (r y : ℕ) (h : Held) (c : Context) → nat_eq r y ≡ false → (with_held r h c).local y ≡ c.local y
held_elsewhere r y h c e = cond-false (nat_eq r y) _ _ e

-- ---- a part that is taken and comes back

abbrev joined : Share → ℕ → Context → Context
joined share r d = given (joins (held_in d r) share.0) d (λ whole. with_held r whole d)

joined_by : (o : Option Held) (whole : Held) (r : ℕ) (d : Context) → o ≡ Some whole
    → (given o d (λ w. with_held r w d)).local r ≡ option_map (holding whole) (d.local r)
joined_by None whole r d e = cc
joined_by (Some w) whole r d e =
    let f : w ≡ whole = cc in
    subst (λ v. (with_held r w d).local r ≡ option_map (holding v) (d.local r)) f (held_at r w d)

restored : (n : _) (share : Share) (r : ℕ) (d : Context) (o : Option Local) → splits (held_of_local o) n ≡ Some share
    → d.local r ≡ option_map (holding share.1) o → (joined share r d).local r ≡ o
restored n share r d None e k = absurd (cc)
restored n share r d (Some l) e k =
    let h : held_in d r ≡ share.1 = ap held_of_local k in
    let j : joins (held_in d r) share.0 ≡ Some l.held = ap (λ v. joins v share.0) h
    ∙ taken_is_given_back l.held n share.0 share.1 e
    in joined_by (joins (held_in d r) share.0) l.held r d j ∙ ap (option_map (holding l.held)) k

joined_elsewhere : (o : Option Held) (r y : ℕ) (d : Context) → nat_eq r y ≡ false
    → (given o d (λ w. with_held r w d)).local y ≡ d.local y
joined_elsewhere None r y d e = refl
joined_elsewhere (Some w) r y d e = held_elsewhere r y w d e

-- where it is a part of this local, it is not away
stays : (b away : Bool) → not (b && away) ≡ true → b ≡ true → away ≡ false
stays true true e h = cc
stays true false e h = refl
stays false away e h = absurd (cc)

given_back_elsewhere : (x : LentPart) (share : Share) (d : Context) (y : ℕ) → nat_eq x.root y ≡ false
    → (given_back x share d).local y ≡ d.local y
given_back_elsewhere x share d y e = by_away x.away
  where
    by_away : (b : Bool) → (if b then d else joined share x.root d).local y ≡ d.local y
    by_away true = refl
    by_away false = joined_elsewhere (joins (held_in d x.root) share.0) x.root y d e

given_back_here : (x : LentPart) (share : Share) (d : Context) → x.away ≡ false
    → given_back x share d ≡ joined share x.root d
given_back_here x share d e = cond-false x.away d (joined share x.root d) e

-- ---- calls

abbrev Restores : List LentPart → ℕ → Type 0
Restores xs y = (c : Context) → (after_call xs c).local y ≡ c.local y

abbrev taken_back : LentPart → List LentPart → Share → Context → Context
taken_back x xs share c = given_back x share (after_call xs (with_held x.root share.1 c))

back_elsewhere : (x : LentPart) (xs : List LentPart) (share : Share) (c : Context) (y : ℕ) → Restores xs y
    → nat_eq x.root y ≡ false → (taken_back x xs share c).local y ≡ c.local y
back_elsewhere x xs share c y ih e =
    let c' : Context = with_held x.root share.1 c in
    given_back_elsewhere x share (after_call xs c') y e ∙ ih c' ∙ held_elsewhere x.root y share.1 c e

back_here : (x : LentPart) (xs : List LentPart) (share : Share) (c : Context) → Restores xs x.root → x.away ≡ false
    → splits (held_in c x.root) x.need ≡ Some share → (taken_back x xs share c).local x.root ≡ c.local x.root
back_here x xs share c ih a e =
    let c' : Context = with_held x.root share.1 c in
    let d : Context = after_call xs c' in
    ap (λ (z : Context). z.local x.root) (given_back_here x share d a)
    ∙ restored x.need share x.root d (c.local x.root) e (ih c' ∙ held_at x.root share.1 c)

back_at : (x : LentPart) (xs : List LentPart) (share : Share) (c : Context) (y : ℕ) (b : Bool) → nat_eq x.root y ≡ b
    → not (b && x.away) ≡ true → Restores xs y → splits (held_in c x.root) x.need ≡ Some share
    → (taken_back x xs share c).local y ≡ c.local y
back_at x xs share c y false n a ih e = back_elsewhere x xs share c y ih n
back_at x xs share c y true n a ih e =
    let r : x.root ≡ y = eqb-true x.root y n in
    subst (λ z. Restores xs z → (taken_back x xs share c).local z ≡ c.local z) r
    (λ i. back_here x xs share c i (stays true x.away a refl) e) ih

one_back : (x : LentPart) (xs : List LentPart) (c : Context) (y : ℕ) → not (nat_eq x.root y && x.away) ≡ true
    → Restores xs y → (o : Option Share) → splits (held_in c x.root) x.need ≡ o
    → (given o (after_call xs c) (λ share. taken_back x xs share c)).local y ≡ c.local y
one_back x xs c y a ih None e = ih c
one_back x xs c y a ih (Some share) e = back_at x xs share c y (nat_eq x.root y) refl a ih e

restores : (xs : List LentPart) (y : ℕ) → none_away xs y ≡ true → Restores xs y
restores [] y a c = refl
restores (x ∷ xs) y a c =
    one_back x xs c y (first_of_both _ _ a) (restores xs y (second_of_both _ _ a)) (splits (held_in c x.root) x.need)
    refl

pub calls_give_back : CallsGiveBack
calls_give_back xs c y a = restores xs y a c

-- ---- what is given away

held_as : (c d : Context) (r : ℕ) → c.local r ≡ d.local r → held_in c r ≡ held_in d r
held_as c d r e = ap held_of_local e

held_then_none : (o : Option Local) → held_of_local (option_map (holding held.None) o) ≡ held.None
held_then_none None = refl
held_then_none (Some l) = refl

-- a part of another local changes nothing of what is held here
gone_elsewhere : (x : LentPart) (xs : List LentPart) (r : ℕ) {h : Held} → nat_eq x.root r ≡ false
    → ((c : Context) → held_in c r ≡ h → held_in (after_call xs c) r ≡ held.None)
    → (c : Context) → held_in c r ≡ h → (o : Option Share)
    → held_in (given o (after_call xs c) (λ share. taken_back x xs share c)) r ≡ held.None
gone_elsewhere x xs r e ih c k None = ih c k
gone_elsewhere x xs r e ih c k (Some share) =
    let c' : Context = with_held x.root share.1 c in
    held_as (taken_back x xs share c) (after_call xs c') r (given_back_elsewhere x share (after_call xs c') r e)
    ∙ ih c' (held_as c' c r (held_elsewhere x.root r share.1 c e) ∙ k)

untaken : (x : LentPart) (xs : List LentPart) (c : Context) → held_in c x.root ≡ held.None
    → after_call (x ∷ xs) c ≡ after_call xs c
untaken x xs c k = ap (λ h. given (splits h x.need) (after_call xs c) (λ share. taken_back x xs share c)) k

nothing_at : (x : LentPart) (xs : List LentPart) (r : ℕ) (b : Bool) → nat_eq x.root r ≡ b
    → ((c : Context) → held_in c r ≡ held.None → held_in (after_call xs c) r ≡ held.None)
    → (c : Context) → held_in c r ≡ held.None → held_in (after_call (x ∷ xs) c) r ≡ held.None
nothing_at x xs r false e ih c k = gone_elsewhere x xs r e ih c k (splits (held_in c x.root) x.need)
nothing_at x xs r true e ih c k =
    let i : x.root ≡ r = eqb-true x.root r e in
    ap (λ (z : Context). held_in z r) (untaken x xs c (ap (λ y. held_in c y) i ∙ k)) ∙ ih c k

nothing_stays : (xs : List LentPart) (r : ℕ) (c : Context) → held_in c r ≡ held.None → held_in (after_call xs c) r
    ≡ held.None
nothing_stays [] r c k = k
nothing_stays (x ∷ xs) r c k = nothing_at x xs r (nat_eq x.root r) refl (nothing_stays xs r) c k

away_first : (x : LentPart) (ys : List LentPart) (c : Context) → x.need ≡ need.Unique → x.away ≡ true
    → held_in c x.root ≡ held.Unique → held_in (after_call (x ∷ ys) c) x.root ≡ held.None
away_first x ys c n a k =
    let r : ℕ = x.root in
    let share : Share = (held.Unique, held.None) in
    let c' : Context = with_held r held.None c in
    let d : Context = after_call ys c' in
    let s : splits (held_in c r) x.need ≡ Some share = ap (λ h. splits h x.need) k ∙ ap (splits held.Unique) n in
    ap (λ o. held_in (given o (after_call ys c) (λ share. taken_back x ys share c)) r) s
    ∙ ap (λ (z : Context). held_in z r) (cond-true x.away d (joined share r d) a)
    ∙ nothing_stays ys r c' (ap held_of_local (held_at r held.None c) ∙ held_then_none (c.local r))

-- parts of other locals come before it
gone_after : (xs ys : List LentPart) (x : LentPart) → none_of xs x.root ≡ true → x.need ≡ need.Unique → x.away ≡ true
    → (c : Context) → held_in c x.root ≡ held.Unique → held_in (after_call (xs ++ x ∷ ys) c) x.root ≡ held.None
gone_after [] ys x e n a c k = away_first x ys c n a k
gone_after (w ∷ xs) ys x e n a c k =
    gone_elsewhere w (xs ++ x ∷ ys) x.root (not-true _ (first_of_both _ _ e))
    (gone_after xs ys x (second_of_both _ _ e) n a) c k (splits (held_in c w.root) w.need)

pub given_away_is_gone : GivenAwayIsGone
given_away_is_gone xs ys x c e n a k = gone_after xs ys x e n a c k
