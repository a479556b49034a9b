-- The first of the statements that are left of a block begins.
use Rattle.std.proofs.Common.{◌≡◌, refl, ap, sym, ◌∙◌, subst, ℕ, suc, List, [], ◌∷◌, ◌++◌, arith}
use Rattle.std.specs.Prelude.{take, drop}
use Rattle.std.proofs.lemmas.List.{take-append-le, drop-append-le, length-append}
use Rattle.ae_text.specs.declared.refusal.Spot.{Spot}
use Rattle.ae_tree.specs.Plain.{Action, Lines, Next, Definition, Code}
use Rattle.ae_rules.specs.Verdict.{Verdict, Holds}
use Rattle.ae_rules.specs.Context.{Context}
use Rattle.ae_rules.specs.Statements.{judge_statement, judge_lines}
use Rattle.ae_semantics.specs.Contexts.{after, or_before}
use Rattle.ae_semantics.specs.Places.{State}
use Rattle.ae_semantics.specs.Observations.{Seen, Ran}
use Rattle.ae_semantics.specs.Runs.{Run, Where, deeper, knowing, marked}
use Rattle.ae_semantics.specs.Means.{source_machine}
use Rattle.ae_semantics.specs.Stacks.{ToDo, TheStatement, TheLines, TheNames, done_all}
use Rattle.ae_values.specs.declared.env.Bind.{Bind}
use Rattle.ae_names.specs.Known.{AreKnown, AreNew, names_declared}
use Rattle.ae_levels.specs.Levels.{NamesInOrder, Level, InBlock, OpenBlock, BlockFits, StandFor}
use Rattle.ae_levels.specs.Going.{Going, Begun}
use Rattle.ae_levels.specs.Laws.{Laws}
use Rattle.ae_levels.proofs.MoveLemmas.{SourceNotes, one_step}
use Rattle.ae_levels.proofs.NewLemmas.{new_still, stays_kept}
use Rattle.ae_levels.proofs.from_rules.PathLemmas.{first_holds}

-- the context after a judged statement
after_is : (p : Code) (m : Definition) (at : Spot) (a : Action) (c d : Context) → judge_statement p m at a c ≡ Holds d
    → after p m at a c ≡ d
after_is p m at a c d e = ap (λ (v : Verdict Context). or_before v c) e

-- with what is known after the first statement the others stand, and what it declares
rest_stands : Laws → (p : Code) (names : NamesInOrder) (waiting : List Bind) (fuel depth : ℕ) (m : Definition) (at : Spot)
    (a : Action) (rest : Lines) (mark : ℕ) (b : OpenBlock) (d e : Context) (ls : List Level) (ys : List ToDo)
    → BlockFits p names depth m (Next at a rest) mark b → judge_statement p m at a b.here.context ≡ Holds d
    → judge_lines p m rest d ≡ Holds e → StandFor p (take mark names) waiting ls ys
    → StandFor p (names ++ names_declared a) waiting (InBlock fuel depth m rest mark ∷ ls)
    (TheLines fuel (knowing d b.here) b.whole (suc b.next) rest ∷ TheNames b.outside ∷ ys)
rest_stands law p names waiting fuel depth m at a rest mark b d e ls ys fit j k h =
    let all : take mark (names ++ names_declared a) ≡ take mark names =
    take-append-le mark names (names_declared a) fit.within in
    let more : drop mark (names ++ names_declared a) ≡ drop mark names ++ names_declared a =
    drop-append-le mark names (names_declared a) fit.within in (
      record { here = knowing d b.here; whole = b.whole; next = suc b.next; outside = b.outside },
      ys,
      refl,
      record {
        method = fit.method;
        depth_here = fit.depth_here;
        after = e;
        judged = k;
        unsplit = fit.unsplit.2;
        known_here = law.known p m at a b.here.context d names j fit.known_here;
        known_outside = subst (λ (xs : NamesInOrder). AreKnown b.outside xs) (sym all) fit.known_outside;
        new_inside = subst (λ (xs : NamesInOrder). AreNew b.outside xs) (sym more)
            (new_still p m at a b.here.context d b.outside (drop mark names) j fit.stays fit.new_inside);
        stays = stays_kept b.outside b.here.context d fit.stays (law.keeps p m at a b.here.context d j);
        within = omega (arith, fit.within, length-append names (names_declared a));
      },
      subst (λ (xs : NamesInOrder). StandFor p xs waiting ls ys) (sym all) h,
    )

-- The first of the statements that are left begins, and the others stand for what is to be done after it.
pub begun : Laws → (p : Code) (whole : Run (List Seen)) (names : NamesInOrder) (waiting : List Bind) (s : State) (out : List ℕ)
    (fuel depth : ℕ) (m : Definition) (at : Spot) (a : Action) (rest : Lines) (mark : ℕ) (ls : List Level)
    → Going p whole names waiting s out (InBlock fuel depth m (Next at a rest) mark ∷ ls)
    → Begun p whole names waiting s out fuel depth m at a (InBlock fuel depth m rest mark ∷ ls)
begun law p whole names waiting s out fuel depth m at a rest mark ls g =
    let b : OpenBlock = g.stands.0 in
    let ys : List ToDo = g.stands.1 in
    let fit : BlockFits p names depth m (Next at a rest) mark b = g.stands.3 in
    let j = first_holds (judge_statement p m at a b.here.context) (judge_lines p m rest) fit.after fit.judged in
    let there : Where = deeper b.next b.here in
    let later : Where = knowing (after p b.here.method at a b.here.context) b.here in
    let noted : SourceNotes = marked (Ran there.path at) g.notes in
    let known_after : after p b.here.method at a b.here.context ≡ j.0 =
    ap (λ (d : Definition). after p d at a b.here.context) fit.method ∙ after_is p m at a b.here.context j.0 j.1 in
    let first : whole ≡ done_all (source_machine p)
    (TheLines fuel b.here b.whole b.next (Next at a rest) ∷ TheNames b.outside ∷ ys) s g.notes =
    g.comes ∙ ap (λ (xs : List ToDo). done_all (source_machine p) xs s g.notes) g.stands.2 in
    let second : whole ≡ done_all (source_machine p) (TheStatement fuel there at a
    ∷ TheLines fuel later b.whole (suc b.next) rest ∷ TheNames b.outside ∷ ys) s noted =
    one_step law.steps p whole (TheLines fuel b.here b.whole b.next (Next at a rest)) (TheNames b.outside ∷ ys)
    (TheStatement fuel there at a ∷ TheLines fuel later b.whole (suc b.next) rest ∷ []) s s g.notes noted first refl in
    record {
      here = there;
      method = fit.method;
      depth_here = fit.depth_here;
      after = j.0;
      judged = j.1;
      known_here = fit.known_here;
      unsplit = fit.unsplit.0;
      inside = fit.unsplit.1;
      stack = TheLines fuel later b.whole (suc b.next) rest ∷ TheNames b.outside ∷ ys;
      notes = noted;
      stands = subst (λ (c : Context). StandFor p (names ++ names_declared a) waiting
          (InBlock fuel depth m rest mark ∷ ls)
          (TheLines fuel (knowing c b.here) b.whole (suc b.next) rest ∷ TheNames b.outside ∷ ys)) (sym known_after)
          (rest_stands law p names waiting fuel depth m at a rest mark b j.0 fit.after ls ys fit j.1 j.2 g.stands.4);
      comes = second;
      printed = g.printed;
    }
