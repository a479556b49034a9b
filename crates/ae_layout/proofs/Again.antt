-- The layout of a text's program is a text of the same program, but for places.
use Rattle.std.proofs.Common.{◌≡◌, List, [], ◌∷◌, ◌++◌, map, sym, ap, ◌∙◌, subst, codes}
use Rattle.std.proofs.lemmas.Str.{encodes_same}
use Rattle.std.proofs.lemmas.List.{map-append}
use Rattle.ae_text.specs.declared.token.Keyword.TheVariants as word
use Rattle.ae_text.specs.declared.token.TokenKind.{TokenKind}
use Rattle.ae_text.specs.declared.token.TokenKind.TheVariants as t
use Rattle.ae_text.specs.declared.token.Token.{Token}
use Rattle.ae_text.specs.Tokens.{Text, tokens_from, end_token, Lexes}
use Rattle.ae_tree.specs.Names.{numbered}
use Rattle.ae_tree.specs.Plain.{Code}
use Rattle.ae_tree.specs.Grammar.{Derives}
use Rattle.ae_layout.specs.Layout.{Spellings, program_rows}
use Rattle.ae_layout.specs.Rows.{Every, CanSpell, kinds_of}
use Rattle.ae_layout.specs.Laws.{ReadAgain}
use Rattle.ae_layout.proofs.Cut.{kinds_in, tokens_kinds}
use Rattle.ae_layout.proofs.Sources.{source_can, layout_again}
use Rattle.ae_layout.proofs.Productions.{shown, Clean}
use Rattle.ae_layout.proofs.Programs.{program_puts}
use Rattle.ae_layout.proofs.Spelled.{NotThis, shown_again, clean_names}
use Rattle.ae_layout.proofs.Kept.{within_same}
use Rattle.ae_layout.proofs.MovedPrograms.{moved_program}

-- a name of a text is no keyword, so not `this`
can_not_this : (k : TokenKind) → CanSpell k → NotThis k
unfolding lib.Utf8.encode
can_not_this (t.Name s) c = λ e. c.spells.2 word.This (encodes_same c.characters (codes "this") (sym c.spells.0 ∙ e))
can_not_this (t.Int n) c = tt
can_not_this (t.Text s) c = tt
can_not_this (t.Word w) c = tt
can_not_this (t.Sign g) c = tt
can_not_this t.End c = tt

all_not_this : (ks : List TokenKind) → Every CanSpell ks → Every NotThis (ks ++ t.End ∷ [])
all_not_this [] c = (tt, tt)
all_not_this (k ∷ ks) c = (can_not_this k c.0, all_not_this ks c.1)

-- no name of a text is spelled as `this`
text_not_this : (text : Text) (tokens : List Token) → Lexes text tokens → Every NotThis (map (λ x. x.kind) tokens)
text_not_this text tokens l =
    let same : map (λ (x : Token). x.kind) tokens ≡ kinds_in l.pieces ++ t.End ∷ [] =
    ap (map (λ (x : Token). x.kind)) l.are ∙ map-append (λ (x : Token). x.kind) (tokens_from text 0 l.pieces)
    (end_token text ∷ [])
    ∙ ap (λ ks. ks ++ t.End ∷ []) (tokens_kinds text 0 l.pieces) in
    let P : List TokenKind → Type 0 = Every NotThis in
    subst P (sym same) (all_not_this (kinds_in l.pieces) (source_can text (kinds_in l.pieces) (tokens, l, same)))

-- the tokens of a program are those of its layout, and the end
pub tokens_of_layout : (text : Text) (tokens : List Token) (p : Code) → Lexes text tokens → Derives tokens p
    → map (λ x. x.kind) tokens ≡ kinds_of (program_rows p) ++ t.End ∷ []
tokens_of_layout text tokens p l d =
    let P : Spellings → Type 0 = λ names. Clean (numbered names tokens) in
    let clean : Clean (numbered p.names tokens) = subst P (sym d.names)
    (clean_names tokens (text_not_this text tokens l)) in
    sym (shown_again tokens) ∙ ap (λ names. shown names (numbered names tokens)) (sym d.names)
    ∙ program_puts tokens p d clean

-- the layout of a program is read as the program
pub read_again : (text : Text) (tokens : List Token) (p : Code) → Lexes text tokens → Derives tokens p → ReadAgain p
read_again text tokens p l d =
    let kinds_are = tokens_of_layout text tokens p l d in
    let (again, lexes, same) = layout_again text p (tokens, l, kinds_are) in
    let q = moved_program tokens again p (kinds_are ∙ sym same) d in
    record {
      tokens = again;
      program = q.program;
      lexes = lexes;
      derives = q.derives;
      same = q.same;
      within =
          within_same p q.program q.same;
    }
