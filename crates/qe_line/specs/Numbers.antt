-- The numbers are an ordered field with square roots.
use Rattle.qe_tower.proofs.ValidNumbers.{valid_operations, valid_sign, valid_ordered, valid_inverts, valid_roots}
use Rattle.qe_line.specs.Field.{IsEuclideanField}

pub numbers : IsEuclideanField valid_operations valid_sign
numbers = record { ordered = valid_ordered; inverts = valid_inverts; roots = valid_roots }
