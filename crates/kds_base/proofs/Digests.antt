-- A worked example of the hash key of a partition key.
use Rattle.std.proofs.Common.{◌≡◌, [], ◌∷◌, refl}
use Rattle.md5.specs.Md5.{md5, digest_bytes, hash_after, compress, rounds, block_words}
use Rattle.kds_base.specs.Hashes.{key_hash}

of_a : key_hash (97 ∷ []) ≡ 0x0cc175b9c0f1b6a831c399e269772661
unfolding md5 digest_bytes hash_after compress rounds block_words
of_a = refl
