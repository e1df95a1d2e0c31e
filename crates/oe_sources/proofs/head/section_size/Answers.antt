use Rattle.std.proofs.Common.{◌*◌, arith}
use Rattle.oe_sources.proofs.SizeLemmas.{le_product}
use Rattle.oe_sources.proofs.head.section_size.Goals as goal

pub overflow_mul-result : goal.overflow_mul-result
overflow_mul-result c =
    omega (arith, le_product c.extent-bands.result c.extent-y.result 65536 65536 c.extent-bands.ensures.most c.extent-y.ensures.most)

pub overflow_mul-result-2 : goal.overflow_mul-result-2
overflow_mul-result-2 c =
    omega (arith, le_product (c.extent-bands.result * c.extent-y.result) c.extent-x.result 4294967296 65536 (le_product c.extent-bands.result c.extent-y.result 65536 65536 c.extent-bands.ensures.most c.extent-y.ensures.most) c.extent-x.ensures.most)
