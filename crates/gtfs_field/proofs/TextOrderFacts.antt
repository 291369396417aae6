-- The order of texts is total, and only one text is equal to a text.
use Rattle.std.specs.Cmp.{IsTotalOrder}
use Rattle.std.specs.Cmp.Lexicographic.{nat_list_cmp_total}
use Rattle.std.specs.FinMap as fin
use Rattle.gtfs_field.specs.TextOrder.{text_cmp}

pub texts_total : IsTotalOrder text_cmp
texts_total = nat_list_cmp_total

pub texts_exact : fin.IsAntisymmetric text_cmp
texts_exact = fin.slice_cmp-IsAntisymmetric fin.nat_cmp-IsAntisymmetric
