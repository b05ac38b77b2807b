-- A product of the code as texts and trees.
use Rattle.pv_svg.specs.Texts.{picture_text}
use Rattle.pv_product.specs.Products.{Product, text, unfinished, paved_as}
use Rattle.pv_product.specs.declared.product.Product as code
use Rattle.pv_product.specs.declared.product.Product.TheVariants.{Text, Unfinished, Paved, Picture}

abbrev pub made : code.Product → Product
made (Text t) = text t.items
made (Unfinished t) = unfinished t.items
made (Paved identity p done) = paved_as identity p.root p.tree done
made (Picture p) = text (picture_text p)
