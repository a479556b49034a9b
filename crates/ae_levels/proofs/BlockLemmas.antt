-- Blocks that are opened, and blocks that are over.
use Rattle.std.proofs.Common.{◌≡◌, refl, ap, sym, ◌∙◌, subst, ℕ, List, [], ◌∷◌, ◌++◌, length, Option, arith}
use Rattle.std.specs.Prelude.{take, drop}
use Rattle.std.proofs.lemmas.List.{take_all, drop_all, take-map, drop-map}
use Rattle.ae_tree.specs.Plain.{Lines, End, Definition, Code}
use Rattle.ae_tree.specs.WellShaped.{EachStatement}
use Rattle.ae_rules.specs.Verdict.{Holds}
use Rattle.ae_rules.specs.Context.{Context}
use Rattle.ae_rules.specs.Statements.{judge_lines}
use Rattle.ae_semantics.specs.Values.{Val}
use Rattle.ae_semantics.specs.Places.{CellName, State}
use Rattle.ae_semantics.specs.Observations.{Seen}
use Rattle.ae_semantics.specs.Runs.{Run, Where, whole_block}
use Rattle.ae_semantics.specs.Meaning.{forgotten}
use Rattle.ae_semantics.specs.Means.{source_machine}
use Rattle.ae_semantics.specs.Stacks.{ToDo, TheLines, TheNames, done_all}
use Rattle.ae_soundness.specs.Whole.{SplitsNothing}
use Rattle.ae_values.specs.declared.env.Bind.{Bind}
use Rattle.ae_values.specs.Shapes.{shapes}
use Rattle.ae_names.specs.Known.{AreKnown, AreNew, state_of, NamesEnd}
use Rattle.ae_steps.specs.Steps.{block_left, StacksAreDoneBy}
use Rattle.ae_levels.specs.Levels.{NamesInOrder, Level, InBlock, OpenBlock, BlockFits, StandFor}
use Rattle.ae_levels.specs.Going.{Going}
use Rattle.ae_levels.proofs.MoveLemmas.{one_step}
use Rattle.ae_levels.proofs.NewLemmas.{none_new}

-- ---- blocks that are opened

-- a judged block stands for its statements and for the end of its names
pub stands_opened : (p : Code) (names : NamesInOrder) (waiting : List Bind) (fuel depth : ℕ) (m : Definition) (b : Lines)
    (here : Where) (d : Context) (ls : List Level) (ys : List ToDo) → here.method ≡ m → here.depth ≡ depth
    → judge_lines p m b here.context ≡ Holds d → EachStatement SplitsNothing b → AreKnown here.context names
    → StandFor p names waiting ls ys
    → StandFor p names waiting (InBlock fuel depth m b (length names) ∷ ls) (block_left fuel here b ++ ys)
stands_opened p names waiting fuel depth m b here d ls ys sm sd j u k h =
    let all : take (length names) names ≡ names = take_all (length names) names (omega arith) in
    let none : drop (length names) names ≡ [] = drop_all (length names) names (omega arith) in (
      record { here = here; whole = whole_block b here; next = 0; outside = here.context },
      ys,
      refl,
      record {
        method = sm;
        depth_here = sd;
        after = d;
        judged = j;
        unsplit = u;
        known_here = k;
        known_outside = subst (λ (xs : NamesInOrder). AreKnown here.context xs) (sym all) k;
        new_inside = subst (λ (xs : NamesInOrder). AreNew here.context xs) (sym none) (none_new here.context);
        stays = λ g e. e;
        within = omega arith;
      },
      subst (λ (xs : NamesInOrder). StandFor p xs waiting ls ys) (sym all) h,
    )

-- ---- blocks that are over

-- Where a block is over, the names end that were bound since it began.
pub block_over : StacksAreDoneBy (List Seen) → NamesEnd → (p : Code) (whole : Run (List Seen)) (cells : ℕ → CellName)
    (r : Option Val) (bs : List Bind) (waiting : List Bind) (out : List ℕ) (fuel depth : ℕ) (m : Definition) (mark : ℕ)
    (ls : List Level)
    → Going p whole (shapes bs) waiting (state_of cells r bs) out (InBlock fuel depth m End mark ∷ ls)
    → Going p whole (shapes (take mark bs)) waiting (state_of cells r (take mark bs)) out ls
block_over law ends p whole cells r bs waiting out fuel depth m mark ls g =
    let b : OpenBlock = g.stands.0 in
    let ys : List ToDo = g.stands.1 in
    let fit : BlockFits p (shapes bs) depth m End mark b = g.stands.3 in
    let first : whole ≡ done_all (source_machine p)
    (TheLines fuel b.here b.whole b.next End ∷ TheNames b.outside ∷ ys) (state_of cells r bs) g.notes =
    g.comes ∙ ap (λ (xs : List ToDo). done_all (source_machine p) xs (state_of cells r bs) g.notes) g.stands.2 in
    let second : whole ≡ done_all (source_machine p) (TheNames b.outside ∷ ys) (state_of cells r bs) g.notes =
    one_step law p whole (TheLines fuel b.here b.whole b.next End) (TheNames b.outside ∷ ys) [] (state_of cells r bs)
    (state_of cells r bs) g.notes g.notes first refl in
    let third : whole ≡ done_all (source_machine p) ys (forgotten b.outside (state_of cells r bs)) g.notes =
    one_step law p whole (TheNames b.outside) ys [] (state_of cells r bs) (forgotten b.outside (state_of cells r bs))
    g.notes g.notes second refl in
    let kept : take mark (shapes bs) ≡ shapes (take mark bs) = take-map _ mark bs in
    let gone : drop mark (shapes bs) ≡ shapes (drop mark bs) = drop-map _ mark bs in
    let same : state_of cells r (take mark bs) ≡ forgotten b.outside (state_of cells r bs) =
    ends cells r b.outside mark bs (subst (λ (xs : NamesInOrder). AreKnown b.outside xs) kept fit.known_outside)
    (subst (λ (xs : NamesInOrder). AreNew b.outside xs) gone fit.new_inside) in
    record {
      stack = ys;
      notes = g.notes;
      stands = subst (λ (xs : NamesInOrder). StandFor p xs waiting ls ys) kept g.stands.4;
      comes = third ∙ ap (λ (t : State). done_all (source_machine p) ys t g.notes) (sym same);
      printed = g.printed;
    }
