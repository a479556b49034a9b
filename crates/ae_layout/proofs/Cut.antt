-- The text of lines whose tokens part is cut into those tokens.
use Rattle.std.proofs.Common.{◌≡◌, ℕ, ◌+◌, Bool, true, false, IsTrue, List, [], ◌∷◌, ◌++◌, map, refl, sym, ap, ◌∙◌}
use Rattle.std.proofs.Common.{subst, append_assoc, append-nil, eqb-true, lit<}
use Rattle.std.specs.Str.{encode_utf8_all, all_scalars}
use Rattle.std.proofs.lemmas.Str.{encodes-append, encode_ascii}
use Rattle.std.proofs.lemmas.List.{map-append}
use Rattle.ae_text.specs.declared.token.TokenKind.{TokenKind}
use Rattle.ae_text.specs.declared.token.TokenKind.TheVariants as t
use Rattle.ae_text.specs.Tokens.{Text, Each, width, TextPiece, White, Comment, Tok, piece_text as piece_spelling}
use Rattle.ae_text.specs.Tokens.{text_of, ArePieces, tokens_from, end_token}
use Rattle.ae_layout.specs.Spelling.{Printed, gap, printed_text, token_text, tokens_text}
use Rattle.ae_layout.specs.Layout.{Row, row_text, rows_text}
use Rattle.ae_layout.specs.Rows.{Every, CanSpell, stay_apart, PartFrom, ArePart, is_space, IsLaid, kinds, kinds_of}
use Rattle.ae_layout.specs.Rows.{AreSpelled, LexesAs}
use Rattle.ae_layout.proofs.Escapes.{scalars-append}
use Rattle.ae_layout.proofs.Written.{Written, written}
use Rattle.ae_layout.proofs.Behind.{Ends, token_is, space_ends, feed_ends, parts_ends}
use Rattle.ae_layout.proofs.Texts.{printed-is}

-- ---- a text with its pieces

-- the kinds of the tokens among pieces
abbrev pub kinds_in : List TextPiece → List TokenKind
kinds_in [] = []
kinds_in (White c ∷ ps) = kinds_in ps
kinds_in (Comment s ∷ ps) = kinds_in ps
kinds_in (Tok k s ∷ ps) = k ∷ kinds_in ps

-- bytes of these characters are cut into tokens of these kinds
pub record IsCut (bytes cs : Text) (ks : List TokenKind) : Type 0 where
  pub pieces : List TextPiece
  pub bytes_are : bytes ≡ encode_utf8_all cs
  pub scalars : all_scalars cs ≡ true
  pub text_is : text_of pieces ≡ cs
  pub each : ArePieces pieces []
  pub kinds_are : kinds_in pieces ≡ ks

cut_end : IsCut [] [] []
cut_end = record { pieces = []; bytes_are = refl; scalars = refl; text_is = refl; each = tt; kinds_are = refl }

-- with a space before it
cut_space : (bytes cs : Text) (ks : List TokenKind) → IsCut bytes cs ks → IsCut (32 ∷ bytes) (32 ∷ cs) ks
cut_space bytes cs ks c = record {
  pieces = White 32 ∷ c.pieces;
  bytes_are = ap (λ x. 32 ∷ x) c.bytes_are ∙ ap (λ x. x ++ encode_utf8_all cs) (sym (encode_ascii 32 (lit< tt)));
  scalars = c.scalars;
  text_is = ap (λ x. 32 ∷ x) c.text_is;
  each = (refl, c.each);
  kinds_are = c.kinds_are;
}

-- with a line feed before it
cut_feed : (bytes cs : Text) (ks : List TokenKind) → IsCut bytes cs ks → IsCut (10 ∷ bytes) (10 ∷ cs) ks
cut_feed bytes cs ks c = record {
  pieces = White 10 ∷ c.pieces;
  bytes_are = ap (λ x. 10 ∷ x) c.bytes_are ∙ ap (λ x. x ++ encode_utf8_all cs) (sym (encode_ascii 10 (lit< tt)));
  scalars = c.scalars;
  text_is = ap (λ x. 10 ∷ x) c.text_is;
  each = (refl, c.each);
  kinds_are = c.kinds_are;
}

-- with a token before it
cut_token : (k : TokenKind) (bytes cs : Text) (ks : List TokenKind) (w : Written k) → Ends k cs → IsCut bytes cs ks
    → IsCut (token_text k ++ bytes) (w.characters ++ cs) (k ∷ ks)
cut_token k bytes cs ks w e c =
    let P : Text → Type 0 = Ends k in
    let rest : Ends k (text_of c.pieces ++ []) = subst P (sym (append-nil (text_of c.pieces) ∙ c.text_is)) e in
    record {
      pieces = Tok k w.characters ∷ c.pieces;
      bytes_are = ap (λ x. x ++ bytes) (sym w.bytes) ∙ ap (λ x. encode_utf8_all w.characters ++ x) c.bytes_are
          ∙ sym (encodes-append w.characters cs);
      scalars = scalars-append w.characters cs w.scalars c.scalars;
      text_is = ap (λ x. w.characters ++ x) c.text_is;
      each = (token_is k w.characters (text_of c.pieces ++ []) w.spells w.in_range rest, c.each);
      kinds_are = ap (λ x. k ∷ x) c.kinds_are;
    }

-- ---- the tokens of a line

-- a text that is cut, and that may stand behind a token
record Behind (k : TokenKind) (bytes : Text) (ks : List TokenKind) : Type 0 where
  characters : Text
  cut : IsCut bytes characters ks
  ends : Ends k characters

token_behind : (close : Bool) (j k : TokenKind) (bytes : Text) (ks : List TokenKind)
    → (close ≡ true → IsTrue (stay_apart j k)) → Written k → Behind k bytes ks
    → Behind j ((gap close ++ token_text k) ++ bytes) (k ∷ ks)
token_behind true j k bytes ks p w b = record {
  characters = w.characters ++ b.characters;
  cut = cut_token k bytes b.characters ks w b.ends b.cut;
  ends = parts_ends j k w.characters b.characters (p refl) w.spells;
}
token_behind false j k bytes ks p w b = record {
  characters = 32 ∷ (w.characters ++ b.characters);
  cut = cut_space (token_text k ++ bytes) (w.characters ++ b.characters) (k ∷ ks)
      (cut_token k bytes b.characters ks w b.ends b.cut);
  ends = space_ends j (w.characters ++ b.characters);
}

behind_as : (k : TokenKind) (bytes bytes' : Text) (ks : List TokenKind) → bytes ≡ bytes' → Behind k bytes ks
    → Behind k bytes' ks
behind_as k bytes bytes' ks e b = let P : Text → Type 0 = λ x. Behind k x ks in subst P e b

tokens_behind : (k : TokenKind) (xs : List Printed) (bytes : Text) (ks : List TokenKind) → PartFrom k xs
    → Every CanSpell (kinds xs) → ((j : TokenKind) → Behind j bytes ks)
    → Behind k (tokens_text xs ++ bytes) (kinds xs ++ ks)
tokens_behind k [] bytes ks p c b = b k
tokens_behind k (x ∷ xs) bytes ks p c b
    = behind_as k _ _ _ (sym (append_assoc (printed_text x) (tokens_text xs) bytes
    ∙ ap (λ y. y ++ (tokens_text xs ++ bytes)) (printed-is x)))
    (token_behind x.close k x.kind (tokens_text xs ++ bytes) (kinds xs ++ ks) p.0 (written x.kind c.0)
    (tokens_behind x.kind xs bytes ks p.1 c.1 b))

-- ---- a line

abbrev Whole : Text → List TokenKind → Type 0
Whole bytes ks = (cs : Text) × IsCut bytes cs ks

feed_behind : (bytes : Text) (ks : List TokenKind) → Whole bytes ks → (j : TokenKind) → Behind j (10 ∷ bytes) ks
feed_behind bytes ks w j = record { characters = 10 ∷ w.0; cut = cut_feed bytes w.0 ks w.1; ends = feed_ends j w.0 }

token_whole : (close : Bool) (k : TokenKind) (bytes : Text) (ks : List TokenKind) → Written k → Behind k bytes ks
    → Whole ((gap close ++ token_text k) ++ bytes) (k ∷ ks)
token_whole true k bytes ks w b = (w.characters ++ b.characters, cut_token k bytes b.characters ks w b.ends b.cut)
token_whole false k bytes ks w b = (
  32 ∷ (w.characters ++ b.characters),
  cut_space (token_text k ++ bytes) (w.characters ++ b.characters) (k ∷ ks)
      (cut_token k bytes b.characters ks w b.ends b.cut),
)

whole_as : (bytes bytes' : Text) (ks : List TokenKind) → bytes ≡ bytes' → Whole bytes ks → Whole bytes' ks
whole_as bytes bytes' ks e w = let P : Text → Type 0 = λ x. Whole x ks in subst P e w

line_whole : (xs : List Printed) (bytes : Text) (ks : List TokenKind) → ArePart xs → Every CanSpell (kinds xs)
    → Whole bytes ks → Whole (tokens_text xs ++ 10 ∷ bytes) (kinds xs ++ ks)
line_whole [] bytes ks p c w = (10 ∷ w.0, cut_feed bytes w.0 ks w.1)
line_whole (x ∷ xs) bytes ks p c w
    = whole_as _ _ _ (sym (append_assoc (printed_text x) (tokens_text xs) (10 ∷ bytes)
    ∙ ap (λ y. y ++ (tokens_text xs ++ 10 ∷ bytes)) (printed-is x)))
    (token_whole x.close x.kind (tokens_text xs ++ 10 ∷ bytes) (kinds xs ++ ks) (written x.kind c.0)
    (tokens_behind x.kind xs (10 ∷ bytes) ks p c.1 (feed_behind bytes ks w)))

indent_whole : (s bytes : Text) (ks : List TokenKind) → Each is_space s → Whole bytes ks → Whole (s ++ bytes) ks
indent_whole [] bytes ks e w = w
indent_whole (c ∷ s) bytes ks e w =
    let rest = indent_whole s bytes ks e.1 w in
    let P : ℕ → Type 0 = λ x. Whole (x ∷ (s ++ bytes)) ks in
    subst P (sym (eqb-true c 32 e.0)) (32 ∷ rest.0, cut_space (s ++ bytes) rest.0 ks rest.1)

-- ---- all lines

pub every_front : {A : Type 0} (P : A → Type 0) (xs ys : List A) → Every P (xs ++ ys) → Every P xs
every_front P [] ys e = tt
every_front P (x ∷ xs) ys e = (e.0, every_front P xs ys e.1)

pub every_back : {A : Type 0} (P : A → Type 0) (xs ys : List A) → Every P (xs ++ ys) → Every P ys
every_back P [] ys e = e
every_back P (x ∷ xs) ys e = every_back P xs ys e.1

row_is : (r : Row) (bytes : Text) → row_text r ++ bytes ≡ r.indent ++ (tokens_text r.tokens ++ 10 ∷ bytes)
row_is r bytes = append_assoc (r.indent ++ tokens_text r.tokens) (10 ∷ []) bytes
    ∙ append_assoc r.indent (tokens_text r.tokens) (10 ∷ bytes)

rows_whole : (rows : List Row) → Every IsLaid rows → Every CanSpell (kinds_of rows)
    → Whole (rows_text rows) (kinds_of rows)
rows_whole [] l c = ([], cut_end)
rows_whole (r ∷ rs) l c =
    let rest = rows_whole rs l.1 (every_back CanSpell (kinds r.tokens) (kinds_of rs) c) in
    whole_as _ _ _ (sym (row_is r (rows_text rs)))
    (indent_whole r.indent _ _ l.0.0
    (line_whole r.tokens (rows_text rs) (kinds_of rs) l.0.1
    (every_front CanSpell (kinds r.tokens) (kinds_of rs) c) rest))

-- the tokens of pieces have their kinds
pub tokens_kinds : (bytes : Text) (at : ℕ) (ps : List TextPiece) → map (λ x. x.kind) (tokens_from bytes at ps)
    ≡ kinds_in ps
tokens_kinds bytes at [] = refl
tokens_kinds bytes at (White c ∷ ps) = tokens_kinds bytes (at + width (piece_spelling (White c))) ps
tokens_kinds bytes at (Comment s ∷ ps) = tokens_kinds bytes (at + width (piece_spelling (Comment s))) ps
tokens_kinds bytes at (Tok k s ∷ ps) = ap (λ l. k ∷ l) (tokens_kinds bytes (at + width (piece_spelling (Tok k s))) ps)

cut_lexes : (bytes cs : Text) (ks : List TokenKind) → IsCut bytes cs ks → LexesAs bytes ks
cut_lexes bytes cs ks c = (
  tokens_from bytes 0 c.pieces ++ end_token bytes ∷ [],
  record {
    pieces = c.pieces;
    utf8 = (cs, (c.scalars, sym c.bytes_are));
    whole = c.bytes_are
        ∙ ap encode_utf8_all (sym c.text_is);
    each = c.each;
    are = refl;
  },
  map-append (λ x. x.kind) (tokens_from bytes 0 c.pieces) (end_token bytes ∷ []) ∙ ap (λ l. l ++ t.End ∷ [])
      (tokens_kinds bytes 0 c.pieces ∙ c.kinds_are),
)

-- the text of lines whose tokens part is cut into those tokens
pub rows_lex : (rows : List Row) → AreSpelled rows → LexesAs (rows_text rows) (kinds_of rows)
rows_lex rows s = let w = rows_whole rows s.laid s.can in cut_lexes (rows_text rows) w.0 (kinds_of rows) w.1
