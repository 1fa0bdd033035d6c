-- "Examples by hand": the ten proved examples of the paper as one table under one theorem, by computation.
use mathlib.Core.Path.{◌≡◌, refl}
use mathlib.Core.List.{List, [], ◌∷◌, ◌++◌}
use Prim.Native.Nat.{ℕ}
use lib.ListN.{replicate}
use Rattle.meaning.specs.Computes.{computes}
use Rattle.meaning.proofs.Asking.{text, judging, indexing, correcting, accepted, refused_by, headers, holds, answer, Example, example, asked, expected}

-- the set P of the paper, 51 bytes
p : List ℕ
p = text "01380006300\r\n014810000051\r\n014921802.10\r\n01030000\r\n"

-- and what the examples make of it
sum_off : List ℕ
sum_off = text "01380006300\r\n014810000052\r\n014921802.10\r\n01030000\r\n"

version0200 : List ℕ
version0200 = text "01380006300\r\n014810000051\r\n014921802.00\r\n01030000\r\n"

without3000 : List ℕ
without3000 = text "01380006300\r\n014810000041\r\n014921802.10\r\n"

length009 : List ℕ
length009 = text "00980006300\r\n014810000051\r\n014921802.10\r\n01030000\r\n"

-- the set of examples 8 and 9
one_test : List ℕ
one_test = text "01380006310\r\n014810000101\r\n014921802.10\r\n01030007\r\n0148402EKG01\r\n0138410FEV1\r\n0138420-3.7\r\n0108421l\r\n"

without8410 : List ℕ
without8410 = text "01380006310\r\n014810000088\r\n014921802.10\r\n01030007\r\n0148402EKG01\r\n0138420-3.7\r\n0108421l\r\n"

examples : List Example
examples =
    -- 1
    example (judging p) (accepted 51 4 6300)
    -- 2
    ∷ example (judging []) (refused_by 1 0 0)
    -- 3
    ∷ example (judging sum_off) (refused_by 17 13 0)
    -- 4
    ∷ example (judging version0200) (refused_by 15 27 9218)
    -- 5
    ∷ example (judging without3000) (refused_by 16 0 3000)
    -- 6, in a buffer of 60 bytes, and in one of 54
    ∷ example (correcting p 9 51 4 (text "10027")) (holds 55 (text "01380006300\r\n014810000055\r\n014921802.10\r\n014300010027\r\n" ++ replicate 5 0))
    ∷ example (correcting p 3 51 4 (text "10027")) (refused_by 22 55 0)
    -- 7
    ∷ example (correcting p 9 51 2 (text "00051")) (refused_by 20 13 8100)
    -- 8, and its headers
    ∷ example (judging one_test) (accepted 101 8 6310)
    ∷ example (indexing one_test 8) (headers (0 ∷ 0 ∷ 0 ∷ 0 ∷ 0 ∷ 0 ∷ 6 ∷ 6 ∷ []))
    -- 9
    ∷ example (judging without8410) (refused_by 12 65 8420)
    -- 10
    ∷ example (judging length009) (refused_by 2 0 0) ∷ []

ten-examples : asked examples ≡ expected examples
unfolding computes answer examples p sum_off version0200 without3000 length009 one_test without8410
ten-examples = refl
