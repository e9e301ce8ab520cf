-- How a drawing is written, as SVG or as lines for a terminal: its pictures, each with a row for each bar, in their
-- order, and what a row says of its bar. A text that isn't told here is any text.
use Rattle.std.specs.Prelude.{◌≡◌, ◌==◌, ◌&&◌, ◌||◌, ◌-◌, ℕ, nat_le, Bool, true, List, [], ◌++◌, Option}
use Rattle.std.specs.Prelude.{None, Some, codes, decimal, string_bytes, if◌then◌else◌}
use Rattle.std.specs.List.{AllZip, concat, list_all}
use Rattle.grove_draw.specs.declared.bar.Bar.{Bar}
use Rattle.grove_draw.specs.declared.drawing.Drawing.{Drawing}
use Rattle.grove_draw.specs.declared.drawing.Form.{Form}
use Rattle.grove_draw.specs.declared.drawing.Form.TheVariants.{Svg, Text}
use Rattle.grove_draw.specs.declared.picture.Picture.{Picture}

-- one text for each bar, in their order
abbrev pub AreWritten : (Bar → List ℕ → Type 0) → List Bar → List ℕ → Type 0
AreWritten IsRow bars text = (rows : List (List ℕ)) × AllZip IsRow bars rows × (text ≡ concat rows)

-- the plan of the document is drawn if it has one
abbrev pub IsOwn : (Picture → List ℕ → Type 0) → Option Picture → List ℕ → Type 0
IsOwn IsPicture None text = text ≡ []
IsOwn IsPicture (Some own) text = IsPicture own text

-- the last row ends with what the bars cost together
abbrev pub IsTotal : List ℕ → Picture → List ℕ → Type 0
IsTotal end picture text = (front : List ℕ) × (text ≡ front ++ decimal picture.cost ++ end)

-- ---- as lines

-- a row ends with what the bar costs: its weight for each of some slots
abbrev pub IsTextRow : Bar → List ℕ → Type 0
IsTextRow bar text = (drawn : List ℕ) × (held : ℕ) × (text ≡ drawn ++ decimal bar.weight ++ codes " x " ++ decimal held
    ++ codes " = " ++ decimal bar.cost ++ codes "\n")

-- a picture has a title with its cost, a scale, its rows, their total, and an empty line
abbrev pub IsTextPicture : List ℕ → Picture → List ℕ → Type 0
IsTextPicture title picture text = (scale rows total : List ℕ) × AreWritten IsTextRow picture.bars.items rows
    × IsTotal (codes "\n") picture total
    × (text ≡ title ++ codes ": cost " ++ decimal picture.cost ++ codes "\n" ++ scale ++ rows ++ total ++ codes "\n")

abbrev pub IsText : Drawing → List ℕ → Type 0
IsText drawing text = (own settled end : List ℕ) × (text ≡ own ++ settled ++ end)
    × IsOwn (IsTextPicture (codes "the document's plan")) drawing.own own
    × IsTextPicture (codes "the settled plan") drawing.settled settled

-- ---- as SVG

-- letters of paths stand for themselves
abbrev pub is_path_byte : ℕ → Bool
is_path_byte byte = (nat_le 97 byte && nat_le byte 122)
    || ((nat_le 48 byte && nat_le byte 57) || ((byte == 95) || ((byte == 45) || (byte == 47))))

abbrev pub IsShown : List ℕ → List ℕ → Type 0
IsShown path text = list_all is_path_byte path ≡ true → text ≡ path

-- a bar begins at an x and has a width; one without is a stroke
abbrev pub IsShape : ℕ → ℕ → List ℕ → Type 0
IsShape x width text = (top end : ℕ) × (text ≡ (if width == 0
    then codes "<path class=\"stroke\" d=\"M" ++ decimal x ++ codes " " ++ decimal top ++ codes "V" ++ decimal end
    ++ codes "\"/>\n"
    else codes "<rect class=\"bar\" x=\"" ++ decimal x ++ codes "\" y=\"" ++ decimal top ++ codes "\" width=\""
    ++ decimal width ++ codes "\" height=\"18\"/>\n"))

-- a row begins with its bar's path, lock, release and cost
abbrev pub IsRowHead : Bar → List ℕ → Type 0
IsRowHead bar text = (path : List ℕ) × IsShown (string_bytes bar.path) path
    × (text ≡ codes "<g class=\"row\" data-node=\"" ++ path ++ codes "\" data-lock=\"" ++ decimal bar.lock
    ++ codes "\" data-release=\"" ++ decimal bar.release ++ codes "\" data-cost=\"" ++ decimal bar.cost ++ codes "\">")

-- and has the bar, from the x of the lock to that of the release
abbrev pub IsSvgRow : (ℕ → ℕ) → Bar → List ℕ → Type 0
IsSvgRow x bar text = (head label shape rest : List ℕ) × IsRowHead bar head
    × IsShape (x bar.lock) (x bar.release - x bar.lock) shape
    × (text ≡ head ++ label ++ shape ++ rest ++ codes "</g>\n")

-- a picture is a group that tells its cost, with a scale, its rows and their total
abbrev pub IsSvgPicture : (ℕ → ℕ) → Picture → List ℕ → Type 0
IsSvgPicture x picture text = (scale rows total : List ℕ) × AreWritten (IsSvgRow x) picture.bars.items rows
    × IsTotal (codes "</text>\n") picture total
    × (text ≡ codes "<g class=\"plan\" data-cost=\"" ++ decimal picture.cost ++ codes "\">\n" ++ scale ++ rows
    ++ total ++ codes "</g>\n")

-- both pictures have one scale of x
abbrev pub IsSvg : Drawing → List ℕ → Type 0
IsSvg drawing text = (x : ℕ → ℕ) × (head own settled end : List ℕ)
    × (text ≡ codes "<svg " ++ head ++ own ++ settled ++ end ++ codes "</svg>\n")
    × IsOwn (IsSvgPicture x) drawing.own own × IsSvgPicture x drawing.settled settled

-- the form decides
abbrev pub IsWritten : Form → Drawing → List ℕ → Type 0
IsWritten Svg drawing text = IsSvg drawing text
IsWritten Text drawing text = IsText drawing text
