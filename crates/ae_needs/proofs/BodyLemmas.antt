-- With any fuel statements of accepted programs in which nothing is split go alike, and so do the bodies of methods.
use Rattle.std.proofs.Common.{◌≡◌, refl, sym, ap, ◌∙◌, subst, ℕ, zero, suc, Bool, true, List, Option, None, Some}
use Rattle.std.specs.Prelude.{⊤}
use Rattle.std.proofs.lemmas.Bool.{or_left}
use Rattle.ae_tree.specs.Plain.{Lines, Definition, Code}
use Rattle.ae_tree.specs.WellShaped.{WellShaped}
use Rattle.ae_rules.specs.declared.uses.Resource.{Resource}
use Rattle.ae_rules.specs.Verdict.{Holds}
use Rattle.ae_rules.specs.Lookups.{method_at}
use Rattle.ae_rules.specs.Table.{table_verdict}
use Rattle.ae_rules.specs.Context.{Context}
use Rattle.ae_rules.specs.Laws.{StatementsKeep}
use Rattle.ae_rules.specs.EdgeLaws.{ChangesAreUsed}
use Rattle.ae_rules.specs.BlockLaws.{ComparisonsAreExact, IsRight, JudgingKeepsRight, RightIsKept}
use Rattle.ae_rules.specs.Statements.{judge_lines}
use Rattle.ae_rules.specs.Judges.{Accepts, start}
use Rattle.ae_rules.specs.Uses.{lines_use}
use Rattle.ae_semantics.specs.Places.{State}
use Rattle.ae_semantics.specs.Observations.{Seen, Notes, Observer}
use Rattle.ae_semantics.specs.Runs.{Act, Where, Below}
use Rattle.ae_semantics.specs.Means.{stops_at}
use Rattle.ae_semantics.specs.Meaning.{block, below}
use Rattle.ae_semantics.specs.Equations.{below-zero, below-suc}
use Rattle.ae_soundness.specs.Laws.{FieldsAreOfGroups, ValuesAreFound, StatementsFitBy}
use Rattle.ae_soundness.specs.Returns.{ReturnsGiveBy}
use Rattle.ae_soundness.specs.Whole.{StandsAt, IsUnsplit, CallsKeepBy}
use Rattle.ae_needs.specs.Agree.{Agree, GoAlike, with_used}
use Rattle.ae_needs.specs.Laws.{ActsReadBy, BodiesGoAlike, CallsReadBy, StatementsReadBy}
use Rattle.ae_needs.specs.Laws.{StatementsReadWhatTheyUse}
use Rattle.ae_needs.proofs.AlikeLemmas.{alike_so}
use Rattle.ae_needs.proofs.NewLemmas.{UseLaws}
use Rattle.ae_needs.proofs.BlockLemmas.{left_alike}
use Rattle.ae_needs.proofs.StateLemmas.{one_state}
use Rattle.ae_needs.proofs.WholeLemmas.{Reading, BlocksRead, BelowReads, Less, again_alike, one_alike}
use Rattle.ae_needs.proofs.WholeLemmas.{many_alike}
use Rattle.ae_needs.proofs.from_rules.PathLemmas.{first_holds}
use Rattle.ae_needs.proofs.from_soundness.WholeLemmas.{Ground, Stands, BelowKeeps}
use Rattle.ae_needs.proofs.from_soundness.BodyLemmas.{Whole, calls_with, below_keeps, judged_body, text_of_body}

-- ---- blocks

-- Judged blocks are left alike.
block_alike : {W : Type 0} (p : Code) (o : Observer W) → Reading W p → (less : Option (Below W)) → Less p o less
    → BlocksRead p (block (stops_at p o) less)
block_alike p o g less l here b d on s t n k w h y z i a =
    left_alike on (with_used (lines_use p here.method b here.context) on) here.context n k _ _
    (λ r e j. or_left (on r) _ e) (many_alike p o g less l here _ 0 b d w h on s t n k y z i a)

-- ---- bodies

-- a state agrees with itself
agrees_itself : (on : Resource → Bool) (s : State) → Agree on s s
agrees_itself on s = record { locals = λ x e. refl; names = λ g e. refl; groups = λ g e. refl; result = refl }

body_alike : {W : Type 0} (p : Code) (act : Where → Lines → Act W) (number : ℕ) → BlocksRead p act → WellShaped p
    → Accepts p → IsUnsplit p → JudgingKeepsRight → (here : Where) → method_at p number ≡ Some here.method
    → here.context ≡ start p here.method → (s : State) (n k : Notes W) → StandsAt p (start p here.method) s
    → GoAlike (λ u v. u ≡ v) n k (act here here.method.body s n) (act here here.method.body s k)
body_alike p act number reads w a u law here e c s n k z =
    let m : Definition = here.method in
    let on : Resource → Bool = λ r. true in
    let j = judged_body p number m a e in
    let right : RightIsKept p m = law p w number m e in
    let stands : Stands p here s = record {
      method = right;
      right = subst (IsRight p) (sym c) right.first;
      state = subst (λ (y : Context). StandsAt p y s) (sym c) z;
    } in
    alike_so (Agree on) (λ u v. u ≡ v) n k (act here m.body s n) (act here m.body s k)
    (reads here m.body j.0 on s s n k (text_of_body p number m w u e)
    (subst (λ (y : Context). judge_lines p m m.body y ≡ Holds j.0) (sym c) j.1) stands stands (λ r i l. refl)
    (agrees_itself on s))
    (λ x y i. one_state on x y (λ r. refl) i)

each_body_alike : {W : Type 0} (p : Code) (act : Where → Lines → Act W) → BlocksRead p act → WellShaped p → Accepts p
    → IsUnsplit p → JudgingKeepsRight → (number : ℕ) (m : Definition) → method_at p number ≡ Some m → (here : Where)
    → here.method ≡ m → here.context ≡ start p m → (s : State) (n k : Notes W) → StandsAt p (start p m) s
    → GoAlike (λ u v. u ≡ v) n k (act here m.body s n) (act here m.body s k)
each_body_alike p act reads w a u law number m e here i c s n k z =
    subst (λ (y : Definition). GoAlike (λ u v. u ≡ v) n k (act here y.body s n) (act here y.body s k)) i
    (body_alike p act number reads w a u law here (e ∙ ap Some (sym i)) (c ∙ ap (start p) (sym i)) s n k
    (subst (λ (y : Definition). StandsAt p (start p y) s) (sym i) z))

-- where blocks are left alike each body goes alike
bodies_alike : {W : Type 0} (p : Code) (less : Option (Below W)) → WellShaped p → Accepts p → IsUnsplit p
    → JudgingKeepsRight → BelowReads p less → BodiesGoAlike p less
bodies_alike p None w a u law l = tt
bodies_alike p (Some run) w a u law l = each_body_alike p run.block l.0 w a u law

-- ---- with any fuel

-- what a program and the laws give
record WholeReading (W : Type 0) (p : Code) : Type 0 where
  whole : Whole W p
  reading : Reading W p
  calls : CallsReadBy W

less_with : {W : Type 0} (p : Code) (o : Observer W) → WholeReading W p → (less : Option (Below W)) → BelowKeeps p less
    → BelowReads p less → Less p o less
less_with p o g less keeps reads = record {
  keeps = keeps;
  follow = calls_with p o g.whole less keeps;
  reads = reads;
  calls = g.calls (stops_at p o) g.whole.shape g.whole.table less
      (bodies_alike p less g.whole.shape g.whole.accepted g.whole.unsplit g.whole.right reads);
}

-- with any fuel judged blocks and loops go alike
below_reads : {W : Type 0} (p : Code) (o : Observer W) → WholeReading W p → (fuel : ℕ)
    → BelowReads p (below (stops_at p o) fuel)
below_reads p o g zero = subst (BelowReads p) (sym (below-zero (stops_at p o))) tt
below_reads p o g (suc fuel) =
    let l : Less p o (below (stops_at p o) fuel) = less_with p o g (below (stops_at p o) fuel)
    (below_keeps p o g.whole fuel) (below_reads p o g fuel) in
    subst (BelowReads p) (sym (below-suc (stops_at p o) fuel))
    (block_alike p o g.reading (below (stops_at p o) fuel) l, again_alike p o g.reading (below (stops_at p o) fuel) l)

-- The laws by which statements go alike.
pub record LawsOfReading (W : Type 0) : Type 0 where
  pub fields : FieldsAreOfGroups
  pub values : ValuesAreFound
  pub simple : StatementsFitBy W
  pub gives : ReturnsGiveBy W
  pub keeps : StatementsKeep
  pub alike : ComparisonsAreExact
  pub right : JudgingKeepsRight
  pub calls_keep : CallsKeepBy W
  pub uses : UseLaws
  pub changes : ChangesAreUsed
  pub acts : ActsReadBy W
  pub calls_read : CallsReadBy W

-- Where nothing is split each judged statement of an accepted program goes alike.
pub statements_read_by : (W : Type 0) → LawsOfReading W → StatementsReadBy W
statements_read_by W l o p w v a u fuel here at act d text h on s t n k y z i m =
    let table = first_holds (table_verdict p) _ tt a in
    let right : RightIsKept p here.method = l.right p w text.number here.method text.method in
    let ground : Ground W p = record {
      fields = l.fields p w table.1;
      values = l.values;
      simple = l.simple;
      gives = l.gives;
      keeps = l.keeps;
      alike = l.alike;
    } in
    let g : WholeReading W p = record {
      whole = record {
        shape = w;
        free = v;
        accepted = a;
        table = table.1;
        unsplit = u;
        right = l.right;
        ground = ground;
        calls = l.calls_keep;
      };
      reading = record { ground = ground; uses = l.uses; changes = l.changes; acts = l.acts };
      calls = l.calls_read;
    } in
    one_alike p o g.reading (below (stops_at p o) fuel)
    (less_with p o g (below (stops_at p o) fuel) (below_keeps p o g.whole fuel) (below_reads p o g fuel)) here at act d
    (text.unsplit.0, text.fields.0, text.named.0) (text.unsplit.1, text.fields.1, text.named.1) h on s t n k
    (record { method = right; right = text.right; state = y })
    (record { method = right; right = text.right; state = z }) i m

-- So it is with both kinds of observer.
pub statements_read_what_they_use : LawsOfReading ⊤ → LawsOfReading (List Seen) → StatementsReadWhatTheyUse
statements_read_what_they_use l m = (statements_read_by ⊤ l, statements_read_by (List Seen) m)
