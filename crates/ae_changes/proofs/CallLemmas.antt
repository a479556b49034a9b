-- A judged call changes only what it writes, where the body of its method changes only what it needs.
use Rattle.std.proofs.Common.{◌≡◌, refl, sym, ap, ◌∙◌, subst, ℕ, nat_lt, Bool, true, false, List, map, zip}
use Rattle.std.proofs.Common.{Option, None, Some}
use Rattle.std.specs.Prelude.{filter_map}
use Rattle.ae_text.specs.declared.refusal.Spot.{Spot}
use Rattle.ae_tree.specs.Names.{io}
use Rattle.ae_tree.specs.FreeThis.{ThisIsFree}
use Rattle.ae_tree.specs.WellShaped.{WellShaped}
use Rattle.ae_tree.specs.Plain.{Code, Expression, Invocation}
use Rattle.ae_rules.specs.declared.uses.Resource.TheVariants as resource
use Rattle.ae_rules.specs.Edges.{Uses}
use Rattle.ae_rules.specs.Verdict.{Holds, in_turn}
use Rattle.ae_rules.specs.Lookups.{method_at}
use Rattle.ae_rules.specs.Table.{TableHolds}
use Rattle.ae_rules.specs.Groups.{wanted_need}
use Rattle.ae_rules.specs.Context.{Context}
use Rattle.ae_rules.specs.Calls.{Callee, group_in, Called, ParamSlot, slots, givens, to_slot, no_roots, judge_callee}
use Rattle.ae_rules.specs.Calls.{judge_callee_with}
use Rattle.ae_rules.specs.Judges.{start}
use Rattle.ae_rules.specs.Laws.{EverySlotIsGiven}
use Rattle.ae_rules.specs.BlockLaws.{HoldsRight}
use Rattle.ae_rules.specs.Uses.{of_each, need_uses, callee_uses}
use Rattle.ae_semantics.specs.Contexts.{shuts_out}
use Rattle.ae_semantics.specs.Values.{Val}
use Rattle.ae_semantics.specs.Places.{Outcome, Fine, State}
use Rattle.ae_semantics.specs.declared.report.Ending.TheVariants.{Done, Trap, Fuel}
use Rattle.ae_semantics.specs.Observations.{Notes}
use Rattle.ae_semantics.specs.Runs.{Run, Went, Ends, Stops, Act, and_then, outcome_given, paid, chosen, Where, Machine}
use Rattle.ae_semantics.specs.Runs.{Below}
use Rattle.ae_semantics.specs.Calls.{Argument, Taker, takers, CallFrame, frame, group_given, enter, without_moved}
use Rattle.ae_semantics.specs.Calls.{groups_back, values_back, given_away, each_argument, leave}
use Rattle.ae_semantics.specs.Meaning.{body_run, call_run, calls_method}
use Rattle.ae_soundness.specs.Fits.{FitsContext}
use Rattle.ae_soundness.specs.Returns.{name_away, MethodsGiveBack}
use Rattle.ae_soundness.specs.Whole.{StandsAt, RunsTo, BodyEnds, BodiesKeep}
use Rattle.ae_soundness.proofs.CallLemmas.{Entered, call_comes, JudgedCall, judged_call, has_groups}
use Rattle.ae_soundness.proofs.CallLemmas.{method_judged}
use Rattle.ae_soundness.proofs.CallingLemmas.{needed_not_away}
use Rattle.ae_soundness.proofs.GroupLemmas.{fields_are_of_groups}
use Rattle.ae_soundness.proofs.KeptLemmas.{Shape, slot_as, taker_as, shapes, slots_are, takers_are, same_names}
use Rattle.ae_soundness.proofs.LastingLemmas.{Gives}
use Rattle.ae_soundness.proofs.LeaveLemmas.{WasEntered, was_entered}
use Rattle.ae_soundness.proofs.NeedLemmas.{IsHeldAs, method_is_held}
use Rattle.ae_soundness.proofs.OutcomeLemmas.{Comes}
use Rattle.ae_changes.specs.Changes.{LeavesGroup, ChangesAsUsed, KeepsLog, RunChanges}
use Rattle.ae_changes.specs.Bodies.{needs_use, BodiesChange}
use Rattle.ae_changes.proofs.UsedLemmas.{IsWritten, Covers, covers_left, covers_right, covers_then}
use Rattle.ae_changes.proofs.WriteLemmas.{changes_nothing, moved_changes}
use Rattle.ae_changes.proofs.MovedLemmas.{covers_names}
use Rattle.ae_changes.proofs.ActLemmas.{FitsRight}
use Rattle.ae_changes.proofs.RunLemmas.{outcome_changes}
use Rattle.ae_changes.proofs.BackLemmas.{needed_written, EachBack, groups_back_change}
use Rattle.ae_changes.proofs.ValueLemmas.{slot_uses, away_written, values_change}
use Rattle.ae_changes.proofs.NeedLemmas.{Lends, each_back, same_io}

-- ---- what a judged call goes by

-- the laws below
pub record LawsOfCalls : Type 0 where
  pub every : EverySlotIsGiven
  pub back : MethodsGiveBack

-- a judged call, from a state that stands
pub record JudgedAt (p : Code) (c : Context) (s : State) (i : Invocation) (k : Callee) (d : Called) : Type 0 where
  pub shaped : WellShaped p
  pub free : ThisIsFree p
  pub table : TableHolds p
  pub callee : judge_callee p c i.on i.method ≡ Holds k
  pub judged : judge_callee_with p c i k ≡ Holds d
  pub right : HoldsRight c
  pub stands : StandsAt p c s

own_stands : (p : Code) (c : Context) (s : State) (i : Invocation) (k : Callee) (d : Called) → JudgedAt p c s i k d
    → FitsRight p c s
own_stands p c s i k d j =
    record { members = fields_are_of_groups p j.shaped j.table; fits = j.stands.0; right = j.right }

own_method : (p : Code) (c : Context) (s : State) (i : Invocation) (k : Callee) (d : Called) → JudgedAt p c s i k d
    → (n : ℕ) × (method_at p n ≡ Some k.method)
own_method p c s i k d j = method_judged p c i.on i.method k j.callee

own_held : (p : Code) (c : Context) (s : State) (i : Invocation) (k : Callee) (d : Called) → JudgedAt p c s i k d
    → IsHeldAs p k.method
own_held p c s i k d j =
    let n = own_method p c s i k d j in method_is_held p j.shaped j.table n.0 k.method n.1

-- What was entered is so.
pub entered_is : (p : Code) (k : Callee) (o : Outcome CallFrame) (f : CallFrame) → Comes (Entered p k) o → o ≡ Fine f
    → Entered p k f
entered_is p k o f h e = subst (Comes (Entered p k)) e h

own_entered : LawsOfCalls → (p : Code) (c : Context) (s : State) (here : Where) (i : Invocation) (k : Callee)
    (d : Called) (f : CallFrame) → JudgedAt p c s i k d → enter p here i s ≡ Fine f → Entered p k f
own_entered laws p c s here i k d f j e = entered_is p k (enter p here i s) f
    (call_comes laws.every p j.shaped j.table c s here i k d j.stands.0 j.callee j.judged) e

own_lends : (p : Code) (c : Context) (s : State) (i : Invocation) (k : Callee) (d : Called) (f : CallFrame)
    → JudgedAt p c s i k d → Entered p k f → Lends p c s i k
own_lends p c s i k d f j n =
    let judged : JudgedCall p c i k = judged_call p c i k d j.judged in
    record {
      fits = j.stands.0;
      judged = judged;
      groups = has_groups p j.shaped j.table c s i k j.stands.0 j.callee judged n.groups (own_held p c s i k d j);
    }

-- ---- a call is left

-- the call's uses: those of its arguments, and those of its needs
abbrev argument_part : Code → Context → Invocation → Callee → Uses
argument_part p c i k = of_each (slot_uses p c) (zip (slots p (group_in k i.groups) k.method) (givens i))

abbrev need_part : Invocation → Callee → Uses
need_part i k = of_each need_uses (map (wanted_need (group_in k i.groups)) k.method.needs)

-- what is left of a frame
frame_left : (p : Code) (c : Context) (u : Uses) (s t : State) (i : Invocation) (k : Callee) (d : Called)
    (xs : List Argument) → JudgedAt p c s i k d → Lends p c s i k → Covers (argument_part p c i k) u
    → each_argument p s (givens i) ≡ Fine xs → EachBack u s (group_given s k i) t k.method.needs → (ts : List Taker)
    → map taker_as (shapes p k.method) ≡ ts
    → Gives (ChangesAsUsed c u s) (values_back (zip ts xs) t (groups_back (group_given s k i) k.method.needs t
    (without_moved (filter_map given_away (zip ts (givens i))) s)))
frame_left p c u s t i k d xs j l cover a back ts same =
    let new : ℕ → ℕ = group_in k i.groups in
    let ws : List Shape = shapes p k.method in
    let pairs : List (ParamSlot × Expression) = zip (map (slot_as new) ws) (givens i) in
    let covers : Covers (of_each (slot_uses p c) pairs) u
    = subst (λ (ys : List ParamSlot). Covers (of_each (slot_uses p c) (zip ys (givens i))) u)
    (slots_are p new k.method) cover in
    let moved : ChangesAsUsed c u s (without_moved (filter_map name_away pairs) s)
    = moved_changes c u s (filter_map name_away pairs) s
    (covers_names (of_each (slot_uses p c) pairs) u (filter_map name_away pairs) covers (away_written p c pairs))
    (changes_nothing c u s) in
    let given : ChangesAsUsed c u s (groups_back (group_given s k i) k.method.needs t
    (without_moved (filter_map given_away (zip (map taker_as ws) (givens i))) s))
    = groups_back_change c u s (without_moved (filter_map given_away (zip (map taker_as ws) (givens i))) s)
    (group_given s k i) t k.method.needs
    (subst (λ (ns : List ℕ). ChangesAsUsed c u s (without_moved ns s)) (sym (same_names new ws (givens i))) moved)
    back in
    subst (λ (ys : List Taker). Gives (ChangesAsUsed c u s)
    (values_back (zip ys xs) t (groups_back (group_given s k i) k.method.needs t
    (without_moved (filter_map given_away (zip ys (givens i))) s)))) same
    (values_change p c u s t new ws (givens i) xs no_roots l.judged.roots (own_stands p c s i k d j)
    (subst (λ (ys : List ParamSlot). in_turn (to_slot p c) (zip ys (givens i)) no_roots ≡ Holds l.judged.roots)
    (slots_are p new k.method) l.judged.arguments) a covers _ given)

-- what is covered of a call's uses
pub record CoversCall (p : Code) (c : Context) (i : Invocation) (k : Callee) (u : Uses) : Type 0 where
  pub all : Covers (callee_uses p c i k) u

-- a call is left so
call_left : LawsOfCalls → (p : Code) (c : Context) (u : Uses) (s t : State) (here : Where) (i : Invocation) (k : Callee)
    (d : Called) (xs : List Argument) → JudgedAt p c s i k d → CoversCall p c i k u
    → enter p here i s ≡ Fine (frame p here s k (group_given s k i) xs)
    → each_argument p s (givens i) ≡ Fine xs
    → ((r : ℕ) → LeavesGroup (needs_use k.method) (frame p here s k (group_given s k i) xs).state r
    → t.groups r ≡ (frame p here s k (group_given s k i) xs).state.groups r)
    → BodyEnds p k.method t
    → Gives (ChangesAsUsed c u s) (leave (frame p here s k (group_given s k i) xs) i s t)
call_left laws p c u s t here i k d xs j cover n a body e =
    let y : CallFrame = frame p here s k (group_given s k i) xs in
    let l : Lends p c s i k = own_lends p c s i k d y j (own_entered laws p c s here i k d y j n) in
    let back = laws.back p j.shaped j.free j.table c s t here i k d y e.after j.stands.0 j.stands.1 j.callee j.judged n
    e.ends e.stands.0 e.stands.1 in
    (frame_left) p c u s t i k d xs j l
    (covers_then (argument_part p c i k) (callee_uses p c i k) u
    (covers_left (argument_part p c i k) (need_part i k)) cover.all) a
    (each_back p c u s i k y.state t k.method.needs l.judged.unit l
    (record {
      start = λ g. refl;
      covers = covers_then (need_part i k) (callee_uses p c i k) u
          (covers_right (argument_part p c i k) (need_part i k)) cover.all;
      body = body;
    }) l.judged.needs back.1) (takers p k.method) (sym (takers_are p k.method))

-- ---- a call runs

-- what is done with a call's result changes only what is written
abbrev pub ResultGoes : {W : Type 0} → Context → Uses → State → Notes W → (Option Val → Act W) → Type 0
ResultGoes c u s n go = (r : Option Val) (v : State) (x : Notes _) → ChangesAsUsed c u s v → KeepsLog u n x
    → RunChanges c u ⊥ s n (go r v x)

-- what the body prints the call prints
body_log : {W : Type 0} (p : Code) (c : Context) (u : Uses) (s : State) (i : Invocation) (k : Callee) (d : Called)
    (n x : Notes W) → JudgedAt p c s i k d → CoversCall p c i k u → KeepsLog (needs_use k.method) n x
    → KeepsLog u n x
body_log p c u s i k d n x j cover h free = by_use (shuts_out (needs_use k.method (resource.Group io))) refl
  where
    same : group_in k i.groups io ≡ io
    same = same_io p j.shaped j.table c i k j.callee (own_held p c s i k d j)

    by_use : (b : Bool) → shuts_out (needs_use k.method (resource.Group io)) ≡ b → x.log ≡ n.log
    by_use false e = h e
    by_use true e =
        let needed : IsWritten (need_part i k) (resource.Group io)
        = subst (λ (g : ℕ). IsWritten (need_part i k) (resource.Group g)) same
        (needed_written (group_in k i.groups) k.method.needs io e) in
        let written : IsWritten u (resource.Group io)
        = cover.all (resource.Group io)
        (covers_right (argument_part p c i k) (need_part i k) (resource.Group io) needed) in
        absurd (cc (written, free))

body_changes : {W : Type 0} → LawsOfCalls → (p : Code) (c : Context) (u : Uses) (s : State) (here : Where) (at : Spot)
    (i : Invocation) (k : Callee) (d : Called) (n : Notes W) (go : Option Val → Act W) (xs : List Argument)
    → JudgedAt p c s i k d → CoversCall p c i k u
    → enter p here i s ≡ Fine (frame p here s k (group_given s k i) xs)
    → each_argument p s (givens i) ≡ Fine xs → ResultGoes c u s n go → (r : Run W) → RunsTo (BodyEnds p k.method) r
    → RunChanges (start p k.method) (needs_use k.method) ⊥ (frame p here s k (group_given s k i) xs).state n r
    → RunChanges c u ⊥ s n (and_then r (λ t x.
    outcome_given (leave (frame p here s k (group_given s k i) xs) i s t) at x (λ v. go t.result v x)))
body_changes laws p c u s here at i k d n go xs j cover e a next (Went t x) ends b =
    let log : KeepsLog u n x = body_log p c u s i k d n x j cover b.1 in
    let gives : Gives (ChangesAsUsed c u s) (leave (frame p here s k (group_given s k i) xs) i s t)
    = call_left laws p c u s t here i k d xs j cover e a b.0.group ends in
    outcome_changes c u ⊥ s n x (leave (frame p here s k (group_given s k i) xs) i s t) at (λ v. go t.result v x) log
    (λ v q. next t.result v x (subst (Gives (ChangesAsUsed c u s)) q gives) log)
body_changes laws p c u s here at i k d n go xs j cover e a next (Ends Done x) ends b = absurd ends
body_changes laws p c u s here at i k d n go xs j cover e a next (Ends (Trap code y) x) ends b =
    body_log p c u s i k d n x j cover b
body_changes laws p c u s here at i k d n go xs j cover e a next (Ends (Fuel y) x) ends b =
    body_log p c u s i k d n x j cover b
body_changes laws p c u s here at i k d n go xs j cover e a next (Stops x) ends b = absurd ends

entered_changes : {W : Type 0} → LawsOfCalls → (p : Code) (c : Context) (u : Uses) (s : State) (here : Where)
    (at : Spot) (i : Invocation) (k : Callee) (d : Called) (n : Notes W) (go : Option Val → Act W) (run : Below W)
    → JudgedAt p c s i k d → CoversCall p c i k u → BodiesKeep p (Some run) → BodiesChange p (Some run)
    → ResultGoes c u s n go → (f : CallFrame) → enter p here i s ≡ Fine f
    → RunChanges c u ⊥ s n (body_run at i f s n go run)
entered_changes {W} laws p c u s here at i k d n go run j cover keep bodies next f e =
    subst (λ (y : CallFrame). RunChanges c u ⊥ s n (body_run at i y s n go run)) r.is
    (body_changes laws p c u s here at i k d n go r.arguments j cover
    (e ∙ ap (λ (z : CallFrame). Fine z) (sym r.is)) r.evaluated next
    (run.block y.here k.method.body y.state n)
    (keep own.0 k.method own.1 y.here refl refl y.state n stands)
    (bodies own.0 k.method own.1 y.here refl refl y.state n stands))
  where
    entered : Entered p k f
    entered = own_entered laws p c s here i k d f j e

    r : WasEntered p s here i k f
    r = was_entered p s here i k f e entered.callee

    y : CallFrame
    y = frame p here s k (group_given s k i) r.arguments

    own : (x : ℕ) × (method_at p x ≡ Some k.method)
    own = own_method p c s i k d j

    stands : StandsAt p (start p k.method) y.state
    stands = (
      subst (λ (z : CallFrame). FitsContext p (start p k.method) z.state) (sym r.is) entered.fits,
      λ g cell. needed_not_away (group_given s k i) s k.method.needs g cell j.stands.1,
    )

-- A judged call changes only what it writes.
pub call_changes : {W : Type 0} → LawsOfCalls → (m : Machine W) (below : Option (Below W)) (c : Context) (u : Uses)
    (s : State) (here : Where) (at : Spot) (i : Invocation) (k : Callee) (d : Called) (n : Notes W)
    (go : Option Val → Act W) → JudgedAt m.code c s i k d → CoversCall m.code c i k u → BodiesKeep m.code below
    → BodiesChange m.code below → ResultGoes c u s n go → RunChanges c u ⊥ s n (calls_method m below here at i s n go)
call_changes {W} laws m below c u s here at i k d n go j cover keep bodies next =
    outcome_changes c u ⊥ s n n (enter m.code here i s) at (call_run below here at i s n go) (λ e. refl)
    (λ f e. by_depth (nat_lt here.depth 1000) below keep bodies f e)
  where
    by_depth : (test : Bool) (less : Option (Below W)) → BodiesKeep m.code less → BodiesChange m.code less
        → (f : CallFrame) → enter m.code here i s ≡ Fine f
        → RunChanges c u ⊥ s n (chosen test (λ _. paid less at n (body_run at i f s n go)) (λ _. Ends (Trap 6 at) n))
    by_depth false less b q f e = λ y. refl
    by_depth true None b q f e = λ y. refl
    by_depth true (Some run) b q f e =
        entered_changes laws m.code c u s here at i k d n go run j cover b q next f e
