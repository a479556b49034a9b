-- Statements gone through, one after the other.
use Rattle.std.proofs.Common.{◌≡◌, ◌+◌, ℕ, zero, suc, false, List, [], ◌∷◌, ◌++◌, length, Some, Result, Ok, Err}
use Rattle.std.proofs.Common.{refl, sym, ap, subst, ◌∙◌, append-nil, append_assoc, get_or, slice_set, arith}
use Rattle.std.proofs.Math.Seq.{set-append_seam}
use Rattle.std.specs.Prelude.{slice_get}
use Rattle.std.specs.Result.{IsErrAnd}
use Rattle.ae_text.specs.declared.refusal.Spot.{Spot}
use Rattle.ae_text.specs.declared.refusal.Deny.{Deny}
use Rattle.ae_text.specs.declared.refusal.Deny.TheVariants as deny
use Rattle.ae_tree.specs.Limits.{statement_count}
use Rattle.ae_tree.specs.Plain.{Action, Lines, End, Next, Definition, Code}
use Rattle.ae_rules.specs.declared.uses.Resource.{Resource}
use Rattle.ae_rules.specs.declared.uses.Use.{Use}
use Rattle.ae_rules.specs.declared.uses.Footprint.{Footprint}
use Rattle.ae_rules.specs.Edges.{Uses}
use Rattle.ae_rules.specs.Verdict.{Verdict, Holds, ◌>>=◌, judged}
use Rattle.ae_rules.specs.Context.{Context}
use Rattle.ae_rules.specs.Statements.{judge_statement, judge_lines}
use Rattle.ae_rules.specs.Uses.{◌∪◌, nothing, stronger, of_judged}
use Rattle.ae_rules.specs.Uses.{statement_uses, lines_use, block_uses}
use Rattle.ae_rules.specs.Blocks.{Opened, scenes_in, scenes_among}
use Rattle.ae_uses.specs.declared.opened.OpenedBlock.{OpenedBlock}
use Rattle.ae_uses.specs.declared.used.Used.{Used}
use Rattle.ae_uses.specs.Footprint.{IsFootprintOf}
use Rattle.ae_uses.specs.Opened.{AreFootprints, AreOpenedFor}
use Rattle.ae_uses.specs.Used.{Adds, used_as}
use Rattle.ae_bodies.specs.Passed.{IsHeld, IsPassed, Opens, HandsOn, Passes, PassesLine, PassesLines, PassesBlock}
use Rattle.ae_bodies.proofs.from_rules.PathLemmas.{first_holds, used_behind_first}
use Rattle.ae_bodies.proofs.from_uses.UsedLemmas.{adds_nothing_more, adds_one_then_other, all_from_nothing}

-- ---- want of memory, and what is never refused

-- what failed in a part failed
pub handed_on : {A B : Type 0} (P : A → Type 0) (Q : B → Type 0) (r : Result B Deny) (e : Deny)
    → IsErrAnd r (λ (d : Deny). d ≡ e) → IsPassed P (Err e) → IsPassed Q r
handed_on P Q (Ok x) e h k = absurd h
handed_on P Q (Err deny.Memory) e h k = tt
handed_on P Q (Err (deny.Refused f)) e h k = subst (λ (d : Deny). IsPassed P (Err d)) (sym h) k

-- where the one is so of what was gone through, the other is
pub passes_as : {B : Type 0} (P Q : B → Type 0) (r : Result B Deny) → ((x : B) → P x → Q x) → IsPassed P r
    → IsPassed Q r
passes_as P Q (Ok x) f h = f x h
passes_as P Q (Err deny.Memory) f h = tt
passes_as P Q (Err (deny.Refused g)) f h = absurd h

-- ---- opened blocks

pub opens_none : (p : Code) (os : List OpenedBlock) → Opens p [] os os
opens_none p os = record { added = []; behind = sym (append-nil os); opened = tt }

opened_both : (p : Code) (xs ys : List Opened) (ks ls : List OpenedBlock) → AreOpenedFor p xs ks → AreOpenedFor p ys ls
    → AreOpenedFor p (xs ++ ys) (ks ++ ls)
opened_both p [] ys [] ls h i = i
opened_both p [] ys (k ∷ ks) ls h i = absurd h
opened_both p (x ∷ xs) ys [] ls h i = absurd h
opened_both p (x ∷ xs) ys (k ∷ ks) ls h i = (h.0, opened_both p xs ys ks ls h.1 i)

-- the one and then the other
pub opens_both : (p : Code) (xs ys : List Opened) (os qs rs : List OpenedBlock) → Opens p xs os qs → Opens p ys qs rs
    → Opens p (xs ++ ys) os rs
opens_both p xs ys os qs rs h k = record {
  added = h.added ++ k.added;
  behind = k.behind ∙ ap (λ (zs : List OpenedBlock). zs ++ k.added) h.behind ∙ append_assoc os h.added k.added;
  opened = opened_both p xs ys h.added k.added h.opened k.opened;
}

-- ---- footprints

-- the same uses have the same footprint
same_footprint : (a b : Uses) (xs : List Use) → ((r : Resource) → a r ≡ b r) → IsFootprintOf a xs → IsFootprintOf b xs
same_footprint a b xs e h = record {
  in_order = h.in_order;
  exact = λ x. ((λ k. sym (e x.what) ∙ (h.exact x).0 k), (λ k. (h.exact x).1 (e x.what ∙ k)));
}

-- what is handed on is that of the same uses
hands_on_alike : (a b : Uses) (v w : Used) (fs gs : List Footprint) → ((r : Resource) → a r ≡ b r)
    → HandsOn a v w fs gs → HandsOn b v w fs gs
hands_on_alike a b v w fs gs e h = record {
  footprint = h.footprint;
  behind = h.behind;
  exact = same_footprint a b h.footprint.uses e h.exact;
  uses = record { at = λ r. h.uses.at r ∙ ap (stronger (used_as v r)) (e r) };
}

-- each resource once, and its footprint
pub hands_on_so : (u z v w : Used) (f : Footprint) (fs gs : List Footprint)
    → ((r : Resource) → used_as z r ≡ used_as u r) → IsFootprintOf (used_as z) f.uses → gs ≡ fs ++ f ∷ []
    → Adds v (used_as z) w → HandsOn (used_as u) v w fs gs
hands_on_so u z v w f fs gs e x g a = hands_on_alike (used_as z) (used_as u) v w fs gs e
    (record { footprint = f; behind = g; exact = x; uses = a })

-- a statement of a block, with its uses handed on
pub line_passes : (p : Code) (m : Definition) (at : Spot) (a : Action) (c d : Context) (os qs : List OpenedBlock)
    (u v i k : Used) (fs gs : List Footprint) → used_as u ≡ nothing → Passes p m at a c d os qs u v
    → HandsOn (used_as v) i k fs gs → PassesLine p m at a c d os qs i k fs gs
line_passes p m at a c d os qs u v i k fs gs n h x = record {
  judged = h.judged;
  opens = h.opens;
  hands_on = hands_on_alike (used_as v) (statement_uses p m a c) i k fs gs
      (all_from_nothing u v (statement_uses p m a c) n h.uses) x;
}

-- ---- the statements of a block

-- no statements
pub none_pass : (p : Code) (m : Definition) (c : Context) (os : List OpenedBlock) (u : Used)
    → PassesLines p m End c c os os u u []
none_pass p m c os u = record {
  judged = refl;
  opens = opens_none p os;
  uses = adds_nothing_more u;
  footprints = (refl, λ i f e. absurd (cc));
}

footprint_more : (p : Code) (m : Definition) (at : Spot) (a : Action) (rest : Lines) (c d : Context) (f : Footprint)
    (fs : List Footprint) → judge_statement p m at a c ≡ Holds d → IsFootprintOf (statement_uses p m a c) f.uses
    → AreFootprints (block_uses p m rest d) (statement_count rest) fs
    → AreFootprints (block_uses p m (Next at a rest) c) (statement_count rest + 1) (f ∷ fs)
footprint_more p m at a rest c d f fs j x h = (omega (arith, h.0), each) where
  each : (i : ℕ) (g : Footprint) → slice_get (f ∷ fs) i ≡ Some g
      → IsFootprintOf (block_uses p m (Next at a rest) c i) g.uses
  each zero g e = let q : f ≡ g = cc in subst (λ (y : Footprint). IsFootprintOf (statement_uses p m a c) y.uses) q x
  each (suc i) g e = subst (λ (b : Uses). IsFootprintOf b g.uses)
      (sym (used_behind_first p m at a rest c d i j)) (h.1 i g e)

-- one statement, and those after it
pub one_then_rest : (p : Code) (m : Definition) (at : Spot) (a : Action) (rest : Lines) (c d e : Context)
    (os qs rs : List OpenedBlock) (u v w : Used) (f : Footprint) (fs : List Footprint)
    → judge_statement p m at a c ≡ Holds d → Opens p (scenes_in p m false a c) os qs
    → IsFootprintOf (statement_uses p m a c) f.uses → Adds u (statement_uses p m a c) v
    → PassesLines p m rest d e qs rs v w fs → PassesLines p m (Next at a rest) c e os rs u w (f ∷ fs)
one_then_rest p m at a rest c d e os qs rs u v w f fs j o x y k = record {
  judged = ap (λ (y : Verdict Context). y >>= judge_lines p m rest) j ∙ k.judged;
  opens = subst (λ (y : Verdict Context). Opens p (scenes_in p m false a c ++ judged y [] (scenes_among p m false rest)) os
      rs) (sym j) (opens_both p (scenes_in p m false a c) (scenes_among p m false rest d) os qs rs o k.opens);
  uses = subst (λ (y : Verdict Context). Adds u (statement_uses p m a c ∪ of_judged y (lines_use p m rest)) w)
      (sym j) (adds_one_then_other u v w (statement_uses p m a c) (lines_use p m rest d) y k.uses);
  footprints = footprint_more p m at a rest c d f fs j x k.footprints;
}

-- once the statements from here on were gone through, all were
abbrev pub Completes : Code → Definition → Lines → Context → List OpenedBlock → Used → Lines → Context → List OpenedBlock
    → Used → List Footprint → Type 0
Completes p m b c os u rest d qs v fs = (e : Context) (rs : List OpenedBlock) (w : Used) (gs : List Footprint)
    → PassesLines p m rest d e qs rs v w gs → PassesLines p m b c e os rs u w (fs ++ gs)

-- one statement less is to be gone through
pub completes_next : (p : Code) (m : Definition) (b : Lines) (c : Context) (os : List OpenedBlock) (u : Used) (at : Spot)
    (a : Action) (rest : Lines) (d e : Context) (qs rs : List OpenedBlock) (v w : Used) (fs gs : List Footprint)
    → Completes p m b c os u (Next at a rest) d qs v fs → PassesLine p m at a d e qs rs v w fs gs
    → Completes p m b c os u rest e rs w gs
completes_next p m b c os u at a rest d e qs rs v w fs gs h k = λ z ts x hs l.
    let f = k.hands_on.footprint in
    subst (PassesLines p m b c z os ts u x) (sym (append_assoc fs (f ∷ []) hs)
    ∙ ap (λ (ys : List Footprint). ys ++ hs) (sym k.hands_on.behind))
    (h z ts x (f ∷ hs) (one_then_rest p m at a rest d e z qs rs ts v w x f hs k.judged k.opens k.hands_on.exact
    k.hands_on.uses l))

-- the statements after one that was gone through are judged too
pub rest_is_held : (p : Code) (m : Definition) (at : Spot) (a : Action) (rest : Lines) (c d : Context)
    → IsHeld (judge_lines p m (Next at a rest) c) → judge_statement p m at a c ≡ Holds d
    → IsHeld (judge_lines p m rest d)
rest_is_held p m at a rest c d h j = (h.0, ap (λ (y : Verdict Context). y >>= judge_lines p m rest) (sym j) ∙ h.1)

-- the first of judged statements is judged
pub statement_is_held : (p : Code) (m : Definition) (at : Spot) (a : Action) (rest : Lines) (c : Context)
    → IsHeld (judge_lines p m (Next at a rest) c) → IsHeld (judge_statement p m at a c)
statement_is_held p m at a rest c h =
    let r = first_holds (judge_statement p m at a c) (judge_lines p m rest) h.0 h.1 in (r.0, r.1)

-- at the end of a block all was gone through
pub completes_all : (p : Code) (m : Definition) (b : Lines) (c d : Context) (os qs : List OpenedBlock) (u v : Used)
    (fs : List Footprint) → Completes p m b c os u End d qs v fs → PassesLines p m b c d os qs u v fs
completes_all p m b c d os qs u v fs h =
    subst (PassesLines p m b c d os qs u v) (append-nil fs) (h d qs v [] (none_pass p m d qs v))

-- ---- a block

-- a block whose place was filled
pub block_passes : (p : Code) (m : Definition) (n : ℕ) (b : Lines) (c d : Context) (os qs rs ts : List OpenedBlock)
    (u w : Used) (fs : List Footprint) → used_as u ≡ nothing → qs ≡ os ++ (record { no = n; uses = [] }) ∷ []
    → PassesLines p m b c d qs rs u w fs
    → ((xs rest : List OpenedBlock) (o : OpenedBlock) → rs ≡ xs ++ o ∷ rest → length os ≡ length xs
    → ts ≡ xs ++ (record { no = o.no; uses = fs }) ∷ rest) → PassesBlock p m n b c d os ts w
block_passes p m n b c d os qs rs ts u w fs z e h f =
    let hole : OpenedBlock = record { no = n; uses = [] } in
    record {
      judged = h.judged;
      opens = record {
        added = record { no = n; uses = fs } ∷ h.opens.added;
        behind = f os h.opens.added hole (h.opens.behind ∙ ap (λ (ys : List OpenedBlock). ys ++ h.opens.added) e
            ∙ append_assoc os (hole ∷ []) h.opens.added) refl;
        opened = ((refl, h.footprints), h.opens.opened);
      };
      uses = all_from_nothing u w (lines_use p m b c) z h.uses;
    }

-- what stands behind a list stands at the place that its length tells
pub next_behind : {A : Type 0} (qs os rest : List A) (o other : A) (at : ℕ) → qs ≡ os ++ o ∷ rest → at ≡ length os
    → get_or qs at other ≡ o
next_behind {A} qs os rest o other at e l =
    ap (λ (xs : List A). get_or xs at other) e ∙ ap (λ (i : ℕ). get_or (os ++ o ∷ rest) i other) l ∙ behind os
  where
    behind : (xs : List A) → get_or (xs ++ o ∷ rest) (length xs) other ≡ o
    behind [] = refl
    behind (x ∷ xs) = behind xs

-- the place of a block among those that are opened is filled
pub filled : (os rest qs : List OpenedBlock) (o b : OpenedBlock) (at : ℕ) (fs : List Footprint) → qs ≡ os ++ o ∷ rest
    → at ≡ length os → b.no ≡ o.no
    → slice_set qs at (record { no = b.no; uses = fs }) ≡ os ++ (record { no = o.no; uses = fs }) ∷ rest
filled os rest qs o b at fs e l n =
    ap (λ (xs : List OpenedBlock). slice_set xs at (record { no = b.no; uses = fs })) e
    ∙ ap (λ (i : ℕ). slice_set (os ++ o ∷ rest) i (record { no = b.no; uses = fs })) l
    ∙ set-append_seam os o rest (record { no = b.no; uses = fs })
    ∙ ap (λ (i : ℕ). os ++ (record { no = i; uses = fs }) ∷ rest) n
