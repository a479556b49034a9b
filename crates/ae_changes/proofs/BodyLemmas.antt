-- The statements and bodies of an accepted program in which nothing is split, with any fuel.
use Rattle.std.proofs.Common.{◌≡◌, sym, ap, ◌∙◌, subst, ℕ, zero, suc, List, [], Option, None, Some}
use Rattle.std.specs.Prelude.{⊤}
use Rattle.ae_tree.specs.Plain.{Lines, Definition, Code}
use Rattle.ae_tree.specs.WellShaped.{WellShaped}
use Rattle.ae_tree.specs.FreeThis.{ThisIsFree}
use Rattle.ae_rules.specs.Edges.{Uses}
use Rattle.ae_rules.specs.Verdict.{Holds, each}
use Rattle.ae_rules.specs.Lookups.{method_at}
use Rattle.ae_rules.specs.Table.{table_verdict}
use Rattle.ae_rules.specs.Context.{Context}
use Rattle.ae_rules.specs.Statements.{judge_lines}
use Rattle.ae_rules.specs.Judges.{Accepts, judge_method, start}
use Rattle.ae_rules.specs.BlockLaws.{ComparisonsAreExact, IsRight, JudgingKeepsRight, RightIsKept}
use Rattle.ae_rules.specs.Laws.{StatementsKeep}
use Rattle.ae_rules.specs.EdgeLaws.{UsesAreAllowed}
use Rattle.ae_rules.specs.Uses.{outside, lines_use}
use Rattle.ae_semantics.specs.Places.{State}
use Rattle.ae_semantics.specs.Observations.{Seen, Notes, Observer}
use Rattle.ae_semantics.specs.Runs.{Act, Where, Below, whole_block}
use Rattle.ae_semantics.specs.Means.{stops_at}
use Rattle.ae_semantics.specs.Meaning.{many, block, below}
use Rattle.ae_semantics.specs.Equations.{below-zero, below-suc}
use Rattle.ae_soundness.specs.Laws.{FieldsAreOfGroups, ValuesAreFound, StatementsFitBy}
use Rattle.ae_soundness.specs.Laws.{StatementsWithoutCallsFit}
use Rattle.ae_soundness.specs.Returns.{ReturnsGiveBy, ReturnsGiveResults}
use Rattle.ae_soundness.specs.Whole.{StandsAt, IsUnsplit, CallsKeepBy, CallsKeepStanding}
use Rattle.ae_soundness.proofs.WholeLemmas.{BelowKeeps}
use Rattle.ae_soundness.proofs.BodyLemmas.{Whole, judged_body, text_of_body, bodies_keep, calls_with, below_keeps}
use Rattle.ae_changes.specs.Changes.{RunChanges, ActsChangeBy, ActsChangeAsUsed}
use Rattle.ae_changes.specs.Bodies.{needs_use, BodiesChange, CallsChangeBy, CallsChangeAsUsed}
use Rattle.ae_changes.specs.Whole.{StatementsChangeBy, StatementsChangeAsUsed, BodyChanges}
use Rattle.ae_changes.specs.Whole.{BodiesChangeBy, BodiesChangeAsUsed}
use Rattle.ae_changes.proofs.from_rules.PathLemmas.{first_holds}
use Rattle.ae_changes.proofs.BlockLemmas.{run_more, left_changes}
use Rattle.ae_changes.proofs.AllowedLemmas.{body_needs}
use Rattle.ae_changes.proofs.WholeLemmas.{NoReturns, BlocksChange, BelowChanges, Lower, again_changes}
use Rattle.ae_changes.proofs.WholeLemmas.{one_changes, many_change}

-- what a program and the laws give
record Wholly (W : Type 0) (p : Code) : Type 0 where
  whole : Whole W p
  allowed : UsesAreAllowed
  acts : ActsChangeBy W
  calls : CallsChangeBy W

-- ---- bodies

-- a body changes what its statements write
body_writes : {W : Type 0} (p : Code) (act : Where → Lines → Act W) (number : ℕ) → BlocksChange p act → WellShaped p
    → Accepts p → IsUnsplit p → JudgingKeepsRight → (here : Where) → method_at p number ≡ Some here.method
    → here.context ≡ start p here.method → (s : State) (n : Notes W) → StandsAt p (start p here.method) s
    → RunChanges (start p here.method)
    (outside (start p here.method) (lines_use p here.method here.method.body (start p here.method))) ⊥ s n
    (act here here.method.body s n)
body_writes p act number k w a u law here e c s n z =
    let m : Definition = here.method in
    let j = judged_body p number m a e in
    let r : RightIsKept p m = law p w number m e in
    run_more (start p m) (outside (start p m) (lines_use p m m.body (start p m)))
    (outside (start p m) (lines_use p m m.body (start p m))) (NoReturns m.body) ⊥ s n (act here m.body s n)
    (λ y i. i) (λ y. absurd y)
    (subst (λ (y : Context). RunChanges y (outside y (lines_use p m m.body y)) (NoReturns m.body) s n
    (act here m.body s n)) c
    (k here m.body j.0 s n (text_of_body p number m w u e)
    (subst (λ (y : Context). judge_lines p m m.body y ≡ Holds j.0) (sym c) j.1)
    (record {
      method = r;
      right = subst (IsRight p) (sym c) r.first;
      state = subst (λ (y : Context). StandsAt p y s) (sym c) z;
    })))

-- and of its caller's groups only those that its method needs for itself
body_changes : {W : Type 0} (p : Code) (act : Where → Lines → Act W) (number : ℕ) → BlocksChange p act → Wholly W p
    → (here : Where) → method_at p number ≡ Some here.method → here.context ≡ start p here.method → (s : State)
    (n : Notes W) → StandsAt p (start p here.method) s
    → BodyChanges p here.method s n (act here here.method.body s n)
body_changes p act number k g here e c s n z =
    let m : Definition = here.method in
    let u : Uses = outside (start p m) (lines_use p m m.body (start p m)) in
    let own = body_writes p act number k g.whole.shape g.whole.accepted g.whole.unsplit g.whole.right here e c s n z in
    let j = judged_body p number m g.whole.accepted e in (
      run_more (start p m) u (needs_use m) ⊥ ⊥ s n (act here m.body s n)
          (body_needs g.allowed g.whole.ground.keeps p m j.0 j.1) (λ y. y) own,
      own,
    )

each_body : {W : Type 0} (p : Code) (act : Where → Lines → Act W) → BlocksChange p act → Wholly W p → (number : ℕ)
    (m : Definition) → method_at p number ≡ Some m → (here : Where) → here.method ≡ m → here.context ≡ start p m
    → (s : State) (n : Notes W) → StandsAt p (start p m) s
    → RunChanges (start p m) (needs_use m) ⊥ s n (act here m.body s n)
each_body p act k g number m e here i c s n z =
    subst (λ (y : Definition). RunChanges (start p y) (needs_use y) ⊥ s n (act here y.body s n)) i
    (body_changes p act number k g here (e ∙ ap Some (sym i)) (c ∙ ap (start p) (sym i)) s n
    (subst (λ (y : Definition). StandsAt p (start p y) s) (sym i) z)).0

bodies_change : {W : Type 0} (p : Code) (less : Option (Below W)) → Wholly W p → BelowChanges p less
    → BodiesChange p less
bodies_change p None g k = tt
bodies_change p (Some run) g k = each_body p run.block k.0 g

-- ---- with any fuel

-- judged blocks and what they call change only what they write
lower_with : {W : Type 0} (p : Code) (o : Observer W) (fuel : ℕ) → Wholly W p
    → BelowChanges p (below (stops_at p o) fuel) → Lower p o (below (stops_at p o) fuel)
lower_with p o fuel g k =
    let less : Option (Below _) = below (stops_at p o) fuel in
    let keeps : BelowKeeps p less = below_keeps p o g.whole fuel in
    record {
      keeps = keeps;
      follow = calls_with p o g.whole less keeps;
      changes = k;
      calls = g.calls (stops_at p o) g.whole.shape g.whole.free g.whole.table less
          (bodies_keep p less g.whole.shape g.whole.accepted g.whole.unsplit g.whole.right keeps)
          (bodies_change p less g k);
    }

block_changes : {W : Type 0} (p : Code) (o : Observer W) → Wholly W p → (less : Option (Below W)) → Lower p o less
    → BlocksChange p (block (stops_at p o) less)
block_changes p o g less k here b d s n w h z =
    left_changes p here.context (lines_use p here.method b here.context) (NoReturns b) s n
    (many (stops_at p o) less here (whole_block b here) 0 b [] s n) z.state.0
    (many_change p o g.whole.ground g.acts less k here (whole_block b here) 0 b d s n w h z)

below_changes : {W : Type 0} (p : Code) (o : Observer W) → Wholly W p → (fuel : ℕ)
    → BelowChanges p (below (stops_at p o) fuel)
below_changes p o g zero = subst (BelowChanges p) (sym (below-zero (stops_at p o))) tt
below_changes p o g (suc fuel) =
    let k : Lower p o (below (stops_at p o) fuel) = lower_with p o fuel g (below_changes p o g fuel) in
    subst (BelowChanges p) (sym (below-suc (stops_at p o) fuel)) (
      block_changes p o g (below (stops_at p o) fuel) k,
      λ here t at e i b s n w h z. again_changes p o g.whole.ground (below (stops_at p o) fuel) k.keeps k.changes here t
          at e i b s n w h z,
    )

lower : {W : Type 0} (p : Code) (o : Observer W) → Wholly W p → (fuel : ℕ) → Lower p o (below (stops_at p o) fuel)
lower p o g fuel = lower_with p o fuel g (below_changes p o g fuel)

-- ---- laws

-- The laws by which whole programs go.
pub record LawsOfChange : Type 0 where
  pub fields : FieldsAreOfGroups
  pub values : ValuesAreFound
  pub simple : StatementsWithoutCallsFit
  pub gives : ReturnsGiveResults
  pub stands : CallsKeepStanding
  pub keeps : StatementsKeep
  pub alike : ComparisonsAreExact
  pub right : JudgingKeepsRight
  pub allowed : UsesAreAllowed
  pub acts : ActsChangeAsUsed
  pub calls : CallsChangeAsUsed

-- those of one kind of machines
record OfKind (W : Type 0) : Type 0 where
  simple : StatementsFitBy W
  gives : ReturnsGiveBy W
  stands : CallsKeepBy W
  acts : ActsChangeBy W
  calls : CallsChangeBy W

wholly : (W : Type 0) → LawsOfChange → OfKind W → (p : Code) → WellShaped p → ThisIsFree p → Accepts p → IsUnsplit p
    → Wholly W p
wholly W l k p w v a u =
    let t = first_holds (table_verdict p) (λ _. each (judge_method p) p.methods) tt a in
    record {
      whole = record {
        shape = w;
        free = v;
        accepted = a;
        table = t.1;
        unsplit = u;
        right = l.right;
        ground = record {
          fields = l.fields p w t.1;
          values = l.values;
          simple = k.simple;
          gives = k.gives;
          keeps = l.keeps;
          alike = l.alike;
        };
        calls = k.stands;
      };
      allowed = l.allowed;
      acts = k.acts;
      calls = k.calls;
    }

first_kind : LawsOfChange → OfKind ⊤
first_kind l = record {
  simple = l.simple.0;
  gives = l.gives.0.0;
  stands = l.stands.0;
  acts = l.acts.0;
  calls = l.calls.0;
}

second_kind : LawsOfChange → OfKind (List Seen)
second_kind l = record {
  simple = l.simple.1;
  gives = l.gives.0.1;
  stands = l.stands.1;
  acts = l.acts.1;
  calls = l.calls.1;
}

statements_change : (W : Type 0) → LawsOfChange → OfKind W → StatementsChangeBy W
statements_change W l k o p w v a u fuel number here e at act d s n text h right z =
    let g : Wholly W p = wholly W l k p w v a u in
    one_changes p o g.whole.ground g.acts (below (stops_at p o) fuel) (lower p o g fuel) here at act d s n
    (text.unsplit.0, text.fields.0, text.names.0) (text.unsplit.1, text.fields.1, text.names.1) h
    (record { method = l.right p w number here.method e; right = right; state = z })

bodies_of : (W : Type 0) → LawsOfChange → OfKind W → BodiesChangeBy W
bodies_of W l k o p w v a u fuel number here e c s n z =
    let g : Wholly W p = wholly W l k p w v a u in
    (body_changes) p (block (stops_at p o) (below (stops_at p o) fuel)) number
    (block_changes p o g (below (stops_at p o) fuel) (lower p o g fuel)) g here e c s n z

-- Each judged statement of an accepted program in which nothing is split changes only what it writes.
pub statements_change_as_used : LawsOfChange → StatementsChangeAsUsed
statements_change_as_used l =
    (statements_change ⊤ l (first_kind l), statements_change (List Seen) l (second_kind l))

-- Each body of a method of such a program changes only what its method needs for itself.
pub bodies_change_as_used : LawsOfChange → BodiesChangeAsUsed
bodies_change_as_used l = (bodies_of ⊤ l (first_kind l), bodies_of (List Seen) l (second_kind l))
