-- Paths as names, each after a slash.
use Rattle.std.proofs.Common.{◌≡◌, ℕ, zero, suc, ◌==◌, true, false, List, [], ◌∷◌, ◌++◌, length, take, drop, Some, refl}
use Rattle.std.proofs.Common.{sym, ◌∙◌, ap, true≢false, eqb-true, arith, bytes_eq, append_assoc, append-nil}
use Rattle.std.specs.List.{list_all}
use Rattle.std.proofs.lemmas.Option.{same_Some, option_and_then_some}
use Rattle.std.proofs.lemmas.List.{take-append-drop}
use Rattle.std.proofs.Math.Seq.{take-append_seam}
use Rattle.std.proofs.lemmas.Bool.{and_parts}
use Rattle.std.proofs.lemmas.Slice.Eq.{bytes_eq-Decides}
use Rattle.grove_tree.specs.Trees.{Rows, parent_of, name_of, up, IsTree}
use Rattle.grove_tree.specs.Rules.{is_name_byte, is_name}
use Rattle.grove_tree.specs.PathRests.{IsRest, GoesOn}
use Rattle.grove_tree.proofs.Names.{names_of, names_step}

-- a path that begins with a name goes on with what is left
pub goes_cut : (path name below rest : List ℕ) → path ≡ 47 ∷ below → bytes_eq (take (length name) below) name ≡ true → rest ≡ drop (length name) below → path ≡ 47 ∷ name ++ rest
goes_cut path name below rest first same left = grind (arith, bytes_eq-Decides, take-append-drop)

-- lists that are one have one rest
pub tail_same : (a b : ℕ) (xs ys : List ℕ) → a ∷ xs ≡ b ∷ ys → xs ≡ ys
tail_same a b xs ys h = cc

-- one that doesn't begin with the name doesn't go on after it
pub goes_not : (path name below : List ℕ) (slash : ℕ) → path ≡ slash ∷ below → bytes_eq (take (length name) below) name ≡ false → (rest : List ℕ) → GoesOn path name rest → ⊥
goes_not path name below slash first other rest (is_rest, is) =
    grind (arith, bytes_eq-Decides, tail_same, take-append_seam)

slash_no_byte : (byte : ℕ) → byte ≡ 47 → is_name_byte byte ≡ true → ⊥
slash_no_byte byte e h = true≢false (sym h ∙ ap is_name_byte e)

-- two names before a rest are one
pub cut_same : (a b m n : List ℕ) → list_all is_name_byte a ≡ true → list_all is_name_byte b ≡ true → IsRest m → IsRest n → a ++ m ≡ b ++ n → a ≡ b
cut_same [] [] m n ha hb hm hn e = refl
cut_same [] (y ∷ b) m n ha hb hm hn e = grind (arith, and_parts, slash_no_byte)
cut_same (x ∷ a) [] m n ha hb hm hn e = grind (arith, and_parts, slash_no_byte)
cut_same (x ∷ a) (y ∷ b) m n ha hb hm hn e =
    let (here, there) = and_parts (is_name_byte x) (list_all is_name_byte a) ha in
    let (here2, there2) = and_parts (is_name_byte y) (list_all is_name_byte b) hb in
    grind (arith, tail_same, cut_same a b m n there there2 hm hn (tail_same x y (a ++ m) (b ++ n) e))

-- a name has no slash
pub name_bytes : (name : List ℕ) → is_name name ≡ true → list_all is_name_byte name ≡ true
name_bytes name h = grind (arith, and_parts)

-- the names of a node begin with those of each node above it
pub names_above_by : (rows : Rows) → IsTree rows → (n high low : ℕ) → up rows n low ≡ Some high → (rest : List ℕ) × IsRest rest × (names_of rows low ≡ names_of rows high ++ rest)
names_above_by rows tree zero high low h = ([], tt, ap (λ (v : ℕ). names_of rows v) (same_Some _ _ h) ∙ sym (append-nil (names_of rows high)))
names_above_by rows tree (suc n) high low h =
    option_and_then_some (parent_of rows) (up rows n low) high h (λ (m : ℕ) way own.
    let (rest, is_rest, is) = names_above_by rows tree n m low way in (
      47 ∷ name_of rows m ++ rest,
      refl,
      is ∙ ap (λ (bytes : List ℕ). bytes ++ rest) (names_step rows tree m high own) ∙ append_assoc (names_of rows high) (47 ∷ name_of rows m) rest,
    ))

-- a list of bytes by its length
pub not_nil : (bytes : List ℕ) → false ≡ (length bytes == 0) → bytes ≡ [] → ⊥
not_nil [] h e = absurd (cc)
not_nil (byte ∷ bytes) h e = absurd (cc)

-- a list of no bytes is empty
pub is_nil : (bytes : List ℕ) → true ≡ (length bytes == 0) → bytes ≡ []
is_nil [] h = refl
is_nil (byte ∷ bytes) h = let e : suc (length bytes) ≡ 0 = eqb-true (suc (length bytes)) 0 (sym h) in absurd (omega arith)
