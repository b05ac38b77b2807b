-- The SVG text of a picture.
use Rattle.std.specs.Prelude.{ℕ, ◌-◌, ◌||◌, if◌then◌else◌, List, [], ◌∷◌, ◌++◌, codes, decimal}
use Rattle.pv_interval.specs.Bounds.{Bounds}
use Rattle.pv_svg.specs.Pixels.{is_empty, side_of}
use Rattle.pv_svg.specs.Rectangles.{Drawn}
use Rattle.pv_svg.specs.declared.rectangle.Class.{Class}
use Rattle.pv_svg.specs.declared.rectangle.Class.TheVariants.{Removed, Inner, Small, OpenLeaf}
use Rattle.pv_svg.specs.declared.rectangle.Rectangle.{Rectangle}
use Rattle.pv_svg.specs.declared.side.Side.{Side}
use Rattle.pv_svg.specs.declared.pixel.TheConstants.{PIXELS}

abbrev pub head_text : List ℕ
head_text = codes "<svg xmlns=\"http://www.w3.org/2000/svg\" width=\"1000\" height=\"1000\" viewBox=\"0 0 1000 1000\">\n"

abbrev pub foot_text : List ℕ
foot_text = codes "</svg>\n"

abbrev pub fill_text : Class → List ℕ
fill_text Removed = codes "#cfd8dc"
fill_text Inner = codes "#43a047"
fill_text Small = codes "#fdd835"
fill_text OpenLeaf = codes "#ffffff"

-- An element from its place, its size and its class.
abbrev pub element_text : ℕ → ℕ → ℕ → ℕ → Class → List ℕ
element_text x y width height class =
    codes "<rect x=\"" ++ decimal x ++ codes "\" y=\"" ++ decimal y ++ codes "\" width=\"" ++ decimal width ++ codes "\" height=\""
    ++ decimal height ++ codes "\" fill=\"" ++ fill_text class ++ codes "\"/>\n"

-- The element of a rectangle's pixels; none where it has none. Pixels go down the picture, and numbers up.
abbrev pub pixels_text : Side → Side → Class → List ℕ
pixels_text across up class =
    if is_empty across || is_empty up then []
    else element_text across.first (PIXELS - up.past) (across.past - across.first) (up.past - up.first) class

abbrev pub rectangle_text : Bounds → Bounds → Rectangle → List ℕ
rectangle_text x y r = pixels_text (side_of r.class x r.x) (side_of r.class y r.y) r.class

abbrev pub rectangles_text : Bounds → Bounds → List Rectangle → List ℕ
rectangles_text x y [] = []
rectangles_text x y (r ∷ rs) = rectangle_text x y r ++ rectangles_text x y rs

abbrev pub picture_text : Drawn → List ℕ
picture_text d = head_text ++ rectangles_text d.x d.y d.rectangles ++ foot_text
