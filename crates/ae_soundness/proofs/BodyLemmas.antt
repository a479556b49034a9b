-- The body of each method of an accepted program in which nothing is split, and its whole runs.
use Rattle.std.proofs.Common.{◌≡◌, refl, sym, ap, ◌∙◌, subst, ℕ, zero, suc, true, List}
use Rattle.std.proofs.Common.{◌||◌, Option, None, Some, ℤ}
use Rattle.std.specs.Prelude.{⊤, is_none}
use Rattle.std.proofs.lemmas.Option.{same_Some}
use Rattle.ae_text.specs.Tokens.{first_spot}
use Rattle.ae_text.specs.declared.refusal.Rule.TheVariants as rule
use Rattle.ae_tree.specs.declared.tree.Ty.{Ty}
use Rattle.ae_tree.specs.Names.{main}
use Rattle.ae_tree.specs.Plain.{Lines, Definition, Code}
use Rattle.ae_tree.specs.WellShaped.{EachStatement, HasField, WellShaped}
use Rattle.ae_tree.specs.FreeThis.{ThisIsFree}
use Rattle.ae_rules.specs.Verdict.{Holds, fine, given, require, found, each}
use Rattle.ae_rules.specs.Context.{Context, closed}
use Rattle.ae_rules.specs.Lookups.{method_at, top_number, top_called}
use Rattle.ae_rules.specs.Table.{TableHolds, table_verdict, tops_differ, members_differ, decl_holds, has_main}
use Rattle.ae_rules.specs.Statements.{end_block, groups_stay, judge_lines}
use Rattle.ae_rules.specs.Judges.{Accepts, judge_method, start, end_method, returns}
use Rattle.ae_rules.specs.BlockLaws.{ComparisonsAreExact, IsRight, JudgingKeepsRight, RightIsKept}
use Rattle.ae_rules.specs.Laws.{StatementsKeep}
use Rattle.ae_semantics.specs.Places.{State}
use Rattle.ae_semantics.specs.Observations.{Seen, Notes, Observer}
use Rattle.ae_semantics.specs.Runs.{Run, Act, Where, Went, Ends, Stops, Machine, Below}
use Rattle.ae_semantics.specs.declared.report.Ending.{Ending}
use Rattle.ae_semantics.specs.declared.report.Ending.TheVariants.{Done}
use Rattle.ae_semantics.specs.Means.{Start, main_here, main_state, start_at, run_start, no_notes, run, stops_at}
use Rattle.ae_semantics.specs.Means.{ending_of, in_order, mean}
use Rattle.ae_semantics.specs.Meaning.{block, below}
use Rattle.ae_semantics.specs.Equations.{below-zero, below-suc}
use Rattle.ae_soundness.specs.Laws.{BeginningsFit, FieldsAreOfGroups, ValuesAreFound, StatementsFitBy}
use Rattle.ae_soundness.specs.Laws.{StatementsWithoutCallsFit}
use Rattle.ae_soundness.specs.Returns.{IsResultOf, HasResult, ReturnsGiveBy, ReturnsGiveResults}
use Rattle.ae_soundness.specs.Whole.{StandsAt, RunsTo, SplitsNothing, IsUnsplit, BodyEnds, BodiesKeep}
use Rattle.ae_soundness.specs.Whole.{CallsKeepBy, LacksNothing, RunsLackNothingBy, AcceptedRunsNeverLack}
use Rattle.ae_soundness.specs.Whole.{AcceptedMeaningsEnd}
use Rattle.ae_soundness.proofs.FieldLemmas.{given_some}
use Rattle.ae_soundness.proofs.FollowLemmas.{Follows, runs_so}
use Rattle.ae_soundness.proofs.WholeLemmas.{Ground, InText, Throughout, BlocksKeep, BelowKeeps, CallsFollow}
use Rattle.ae_soundness.proofs.WholeLemmas.{many_follow, again_follows, block_follows, calls_follow}
use Rattle.ae_soundness.proofs.from_rules.PathLemmas.{first_holds, each_holds}
use Rattle.ae_soundness.proofs.from_rules.SeenLemmas.{required, found_is}
use Rattle.ae_soundness.proofs.from_rules.BelowLemmas.{found_has}
use Rattle.ae_soundness.proofs.from_rules.HeldLemmas.{named_method}

-- ---- blocks and loops with any fuel

-- A judged block is left with a state that follows.
pub block_keeps : {W : Type 0} (p : Code) (o : Observer W) → Ground W p → (less : Option (Below W)) → BelowKeeps p less
    → CallsFollow (stops_at p o) less → BlocksKeep p (block (stops_at p o) less)
block_keeps p o g less k calls here b d s n w h z = block_follows p g here b d s _ h z.state
    (many_follow p o g less k calls here _ 0 b d s n w h z)

-- ---- bodies

pub judged_body : (p : Code) (n : ℕ) (m : Definition) → Accepts p → method_at p n ≡ Some m
    → (c : Context) × (judge_lines p m m.body (start p m) ≡ Holds c)
    × (end_block p (start p m) m.body c ≡ Holds (closed (start p m) c))
    × (end_method p m (closed (start p m) c) ≡ fine)
judged_body p n m a e =
    let t = first_holds (table_verdict p) _ tt a in
    let h = each_holds (judge_method p) p.methods tt n m t.2 e in
    let r = first_holds (judge_lines p m m.body (start p m)) _ h.0 h.1 in
    let q = first_holds (end_block p (start p m) m.body r.0) (end_method p m) h.0 r.2 in
    let v = first_holds (groups_stay p (start p m) r.0 m.body) (λ _. Holds (closed (start p m) r.0)) q.0 q.1 in
    let same : closed (start p m) r.0 ≡ q.0 = cc (v.2) in
    (r.0, r.1, q.1 ∙ ap Holds (sym same), ap (end_method p m) same ∙ q.2)

pub text_of_body : (p : Code) (n : ℕ) (m : Definition) → WellShaped p → IsUnsplit p → method_at p n ≡ Some m
    → InText p (Throughout m.body)
text_of_body p n m w u e = (
  found_has (λ (d : Definition). EachStatement SplitsNothing d.body) p.methods n m u e,
  found_has (λ (d : Definition). EachStatement HasField d.body) p.methods n m w.fields e,
  (named_method p n m w e).body,
)

-- a method that is not `void` ends with `return`
result_at_end : (p : Code) (m : Definition) (d : Context) (t : State) → end_method p m d ≡ fine
    → (returns m.body ≡ true → HasResult p m t) → HasResult p m t
result_at_end p m d t e h =
    let r = first_holds (require (is_none m.result || returns m.body) rule.ReturnMissing m.name.at) _ tt e in
    by_type m.result refl (required (is_none m.result || returns m.body) rule.ReturnMissing m.name.at r.0 r.1)
  where
    by_type : (o : Option Ty) → m.result ≡ o → is_none m.result || returns m.body ≡ true → HasResult p m t
    by_type None q i = subst (λ (y : Option Ty). IsResultOf p y t.result) (sym q) tt
    by_type (Some y) q i = h (sym (ap (λ (x : Option Ty). is_none x || returns m.body) q) ∙ i)

body_here : {W : Type 0} (p : Code) (act : Where → Lines → Act W) (number : ℕ) → BlocksKeep p act → WellShaped p
    → Accepts p → IsUnsplit p → JudgingKeepsRight → (here : Where) → method_at p number ≡ Some here.method
    → here.context ≡ start p here.method → (s : State) (x : Notes W) → StandsAt p (start p here.method) s
    → RunsTo (BodyEnds p here.method) (act here here.method.body s x)
body_here p act number k w a u law here e c s x z =
    let m : Definition = here.method in
    let j = judged_body p number m a e in
    let r : RightIsKept p m = law p w number m e in
    runs_so (Follows p m (returns m.body) (closed here.context j.0) s) (BodyEnds p m) (act here m.body s x)
    (k here m.body j.0 s x (text_of_body p number m w u e)
    (subst (λ (y : Context). judge_lines p m m.body y ≡ Holds j.0) (sym c) j.1)
    (record {
      method = r;
      right = subst (IsRight p) (sym c) r.first;
      state = subst (λ (y : Context). StandsAt p y s) (sym c) z;
    }))
    (λ t f. record {
      after = closed (start p m) j.0;
      ends = (j.0, j.1, j.2, j.3);
      stands = subst (λ (y : Context). StandsAt p (closed y j.0) t) c f.stands;
      result = result_at_end p m (closed (start p m) j.0) t j.3 f.result;
    })

each_body : {W : Type 0} (p : Code) (act : Where → Lines → Act W) → BlocksKeep p act → WellShaped p → Accepts p
    → IsUnsplit p → JudgingKeepsRight → (number : ℕ) (m : Definition) → method_at p number ≡ Some m → (here : Where)
    → here.method ≡ m → here.context ≡ start p m → (s : State) (x : Notes W) → StandsAt p (start p m) s
    → RunsTo (BodyEnds p m) (act here m.body s x)
each_body p act k w a u law number m e here i c s x z =
    subst (λ (y : Definition). RunsTo (BodyEnds p y) (act here y.body s x)) i
    (body_here p act number k w a u law here (e ∙ ap Some (sym i)) (c ∙ ap (start p) (sym i)) s x
    (subst (λ (y : Definition). StandsAt p (start p y) s) (sym i) z))

-- Where judged blocks keep standing, each body is left as it is judged to end.
pub bodies_keep : {W : Type 0} (p : Code) (less : Option (Below W)) → WellShaped p → Accepts p → IsUnsplit p
    → JudgingKeepsRight → BelowKeeps p less → BodiesKeep p less
bodies_keep p None w a u law k = tt
bodies_keep p (Some inner) w a u law k = each_body p inner.block k.0 w a u law

-- ---- with any fuel

-- what a program and the laws give
pub record Whole (W : Type 0) (p : Code) : Type 0 where
  pub shape : WellShaped p
  pub free : ThisIsFree p
  pub accepted : Accepts p
  pub table : TableHolds p
  pub unsplit : IsUnsplit p
  pub right : JudgingKeepsRight
  pub ground : Ground W p
  pub calls : CallsKeepBy W

pub calls_with : {W : Type 0} (p : Code) (o : Observer W) → Whole W p → (less : Option (Below W)) → BelowKeeps p less
    → CallsFollow (stops_at p o) less
calls_with p o g less k = calls_follow (stops_at p o) less (g.calls (stops_at p o) g.shape g.free g.table less
    (bodies_keep p less g.shape g.accepted g.unsplit g.right k))

-- with any fuel judged blocks and loops keep standing
pub below_keeps : {W : Type 0} (p : Code) (o : Observer W) → Whole W p → (fuel : ℕ)
    → BelowKeeps p (below (stops_at p o) fuel)
below_keeps p o g zero = subst (BelowKeeps p) (sym (below-zero (stops_at p o))) tt
below_keeps p o g (suc fuel) =
    let k : BelowKeeps p (below (stops_at p o) fuel) = below_keeps p o g fuel in
    subst (BelowKeeps p) (sym (below-suc (stops_at p o) fuel)) (
      block_keeps p o g.ground (below (stops_at p o) fuel) k (calls_with p o g (below (stops_at p o) fuel) k),
      λ here t at e i b s n w h z. again_follows p o g.ground (below (stops_at p o) fuel) k here t at e i b s n w h z,
    )

-- ---- whole runs

-- where a program begins: in a method of its own, where that begins, and no group is there
record Begins (p : Code) (x : Start) : Type 0 where
  number : ℕ
  is : method_at p number ≡ Some x.here.method
  context : x.here.context ≡ start p x.here.method
  same : x.here.method ≡ x.method
  groups : (g : ℕ) → x.state.groups g ≡ None

begins_so : (p : Code) (ints : List ℤ) (x : Start) → run_start p ints ≡ Some x → Begins p x
begins_so p ints x e =
    let a = given_some (top_number p main) (start_at p ints) x e in
    let b = given_some (method_at p a.0) _ x a.2 in
    subst (Begins p) (same_Some _ x b.2)
    (record { number = a.0; is = b.1; context = refl; same = refl; groups = λ g. refl })

-- a program whose declarations hold has a beginning
main_there : (p : Code) (ints : List ℤ) → TableHolds p → (x : Start) × (run_start p ints ≡ Some x)
main_there p ints h =
    let c = first_holds (tops_differ p) _ tt h in
    let d = first_holds (each (members_differ p) p.classes) _ tt c.2 in
    let g = first_holds (each (decl_holds p) p.decls) (λ _. has_main p) tt d.2 in
    let s = first_holds (found (top_called p main) rule.NoMain first_spot) _ tt g.2 in
    let a = given_some (top_number p main) (method_at p) s.0
    (found_is (top_called p main) rule.NoMain first_spot s.0 s.1) in (
      record { here = main_here p a.0 s.0; method = s.0; state = main_state p s.0 ints },
      ap (λ (o : Option ℕ). given o None (start_at p ints)) a.1
          ∙ ap (λ (o : Option Definition). given o None (λ (m : Definition).
          Some (record { here = main_here p a.0 m; method = m; state = main_state p m ints }))) a.2,
    )

run_lacks_nothing : {W : Type 0} (p : Code) (o : Observer W) → Whole W p → BeginningsFit → (ints : List ℤ) (x : Start)
    → run_start p ints ≡ Some x → (fuel : ℕ) (w : W) → LacksNothing (run (stops_at p o) ints fuel w)
run_lacks_nothing {W} p o g law ints x e fuel w =
    let m : Machine W = stops_at p o in
    let b : Begins p x = begins_so p ints x e in
    let k : BelowKeeps p (below m fuel) = below_keeps p o g fuel in
    let ends : RunsTo (BodyEnds p x.here.method)
    (block m (below m fuel) x.here x.here.method.body x.state (no_notes w)) = body_here p (block m (below m fuel))
    b.number (block_keeps p o g.ground (below m fuel) k (calls_with p o g (below m fuel) k)) g.shape g.accepted
    g.unsplit g.right x.here b.is b.context x.state (no_notes w)
    (subst (λ (y : Context). StandsAt p y x.state) b.context
    (law p g.shape g.table ints x e, λ h cell i. absurd (cc (b.groups h, i)))) in
    subst (λ (r : Run W). LacksNothing r) (sym (ap (λ (y : Option Start). given y (Stops (no_notes w))
    (λ (z : Start). block m (below m fuel) z.here z.method.body z.state (no_notes w))) e))
    (subst (λ (y : Definition). LacksNothing (block m (below m fuel) x.here y.body x.state (no_notes w))) b.same
    (runs_so (BodyEnds p x.here.method) (λ t. Unit {0})
    (block m (below m fuel) x.here x.here.method.body x.state (no_notes w)) ends (λ t f. tt)))

-- The laws by which whole runs go.
pub record LawsOfRuns : Type 0 where
  pub fields : FieldsAreOfGroups
  pub values : ValuesAreFound
  pub simple : StatementsWithoutCallsFit
  pub gives : ReturnsGiveResults
  pub keeps : StatementsKeep
  pub alike : ComparisonsAreExact
  pub right : JudgingKeepsRight
  pub begins : BeginningsFit

pub runs_lack_nothing : (W : Type 0) → LawsOfRuns → StatementsFitBy W → ReturnsGiveBy W → CallsKeepBy W
    → RunsLackNothingBy W
runs_lack_nothing W l simple gives calls o p w v a u ints fuel y =
    let t = first_holds (table_verdict p) _ tt a in
    let x = main_there p ints t.1 in
    (run_lacks_nothing) p o (record {
      shape = w;
      free = v;
      accepted = a;
      table = t.1;
      unsplit = u;
      right = l.right;
      ground = record {
        fields = l.fields p w t.1;
        values = l.values;
        simple = simple;
        gives = gives;
        keeps = l.keeps;
        alike = l.alike;
      };
      calls = calls;
    }) l.begins ints x.0 x.1 fuel y

-- Where nothing is split no run of an accepted program lacks anything.
pub accepted_runs_never_lack : LawsOfRuns → CallsKeepBy ⊤ → CallsKeepBy (List Seen) → AcceptedRunsNeverLack
accepted_runs_never_lack l c d = (
  (runs_lack_nothing) ⊤ l l.simple.0 l.gives.0.0 c,
  (runs_lack_nothing) (List Seen) l l.simple.1 l.gives.0.1 d,
)

ends_so : {W : Type 0} (r : Run W) → LacksNothing r → (e : Ending) × (ending_of r ≡ Some e)
ends_so (Went s n) h = (Done, refl)
ends_so (Ends e n) h = (e, refl)
ends_so (Stops n) h = absurd h

-- Where nothing is split the meaning of an accepted program has an ending.
pub accepted_meanings_end : AcceptedRunsNeverLack → AcceptedMeaningsEnd
unfolding mean
accepted_meanings_end law p w v a u ints fuel seen = ends_so (run (stops_at p in_order) ints fuel seen)
    (law.1 in_order p w v a u ints fuel seen)
