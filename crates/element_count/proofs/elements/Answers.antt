-- A null dataspace has none; any other has the product of its sizes.
use Rattle.element_count.proofs.elements.Goals as goal

pub returns-then-is_null : goal.returns-then-is_null
returns-then-is_null c = rw (← c.is_null.ensures, c.if-is_null.true)

pub returns : goal.returns
returns c = rw (← c.is_null.ensures, c.if-is_null.false) c.product.ensures
