-- src/evm/op.rs. Assumes nothing.
use Rattle.std.specs.Prelude.{ℕ, true, List, [], ◌∷◌, eqb}
use Rattle.spec.specs.Lists.{if}
use Rattle.spec.specs.Opcodes.{Row, unknown}

-- lines 3, 6 to 12 and 14 to 16: a line of the table, `$code`, `$size`, `$stack_in`, `$stack_out`; its name is in the comment. `OpCodeInfo` is the definitions' Row
pub record Declared : Type 0 where
  pub code : ℕ
  pub info : Row

-- lines 22 to 29: what a line writes
abbrev pub op : ℕ → ℕ → ℕ → ℕ → Declared
op c s i o = record { code = c; info = record { size = s; taken = i; given = o; known = true } }

-- lines 17 to 18 and 40 to 191: `declare_opcodes!`; a byte has its name in the comment, and here it is the number itself
abbrev pub declare_opcodes : List Declared
declare_opcodes =
    op 0x00 1 0 0  -- STOP
    ∷ op 0x01 1 2 1  -- ADD
    ∷ op 0x02 1 2 1  -- MUL
    ∷ op 0x03 1 2 1  -- SUB
    ∷ op 0x04 1 2 1  -- DIV
    ∷ op 0x05 1 2 1  -- SDIV
    ∷ op 0x06 1 2 1  -- MOD
    ∷ op 0x07 1 2 1  -- SMOD
    ∷ op 0x08 1 3 1  -- ADDMOD
    ∷ op 0x09 1 3 1  -- MULMOD
    ∷ op 0x0A 1 2 1  -- EXP
    ∷ op 0x0B 1 2 1  -- SIGNEXTEND
    ∷ op 0x10 1 2 1  -- LT
    ∷ op 0x11 1 2 1  -- GT
    ∷ op 0x12 1 2 1  -- SLT
    ∷ op 0x13 1 2 1  -- SGT
    ∷ op 0x14 1 2 1  -- EQ
    ∷ op 0x15 1 1 1  -- ISZERO
    ∷ op 0x16 1 2 1  -- AND
    ∷ op 0x17 1 2 1  -- OR
    ∷ op 0x18 1 2 1  -- XOR
    ∷ op 0x19 1 1 1  -- NOT
    ∷ op 0x1A 1 2 1  -- BYTE
    ∷ op 0x1B 1 2 1  -- SHL
    ∷ op 0x1C 1 2 1  -- SHR
    ∷ op 0x1D 1 2 1  -- SAR
    ∷ op 0x1E 1 1 1  -- CLZ
    ∷ op 0x20 1 2 1  -- KECCAK256
    ∷ op 0x30 1 0 1  -- ADDRESS
    ∷ op 0x31 1 1 1  -- BALANCE
    ∷ op 0x32 1 0 1  -- ORIGIN
    ∷ op 0x33 1 0 1  -- CALLER
    ∷ op 0x34 1 0 1  -- CALLVALUE
    ∷ op 0x35 1 1 1  -- CALLDATALOAD
    ∷ op 0x36 1 0 1  -- CALLDATASIZE
    ∷ op 0x37 1 3 0  -- CALLDATACOPY
    ∷ op 0x38 1 0 1  -- CODESIZE
    ∷ op 0x39 1 3 0  -- CODECOPY
    ∷ op 0x3A 1 0 1  -- GASPRICE
    ∷ op 0x3B 1 1 1  -- EXTCODESIZE
    ∷ op 0x3C 1 4 0  -- EXTCODECOPY
    ∷ op 0x3D 1 0 1  -- RETURNDATASIZE
    ∷ op 0x3E 1 3 0  -- RETURNDATACOPY
    ∷ op 0x3F 1 1 1  -- EXTCODEHASH
    ∷ op 0x40 1 1 1  -- BLOCKHASH
    ∷ op 0x41 1 0 1  -- COINBASE
    ∷ op 0x42 1 0 1  -- TIMESTAMP
    ∷ op 0x43 1 0 1  -- NUMBER
    ∷ op 0x44 1 0 1  -- PREVRANDAO
    ∷ op 0x45 1 0 1  -- GASLIMIT
    ∷ op 0x46 1 0 1  -- CHAINID
    ∷ op 0x47 1 0 1  -- SELFBALANCE
    ∷ op 0x48 1 0 1  -- BASEFEE
    ∷ op 0x49 1 1 1  -- BLOBHASH
    ∷ op 0x4A 1 0 1  -- BLOBBASEFEE
    ∷ op 0x50 1 1 0  -- POP
    ∷ op 0x51 1 1 1  -- MLOAD
    ∷ op 0x52 1 2 0  -- MSTORE
    ∷ op 0x53 1 2 0  -- MSTORE8
    ∷ op 0x54 1 1 1  -- SLOAD
    ∷ op 0x55 1 2 0  -- SSTORE
    ∷ op 0x56 1 1 0  -- JUMP
    ∷ op 0x57 1 2 0  -- JUMPI
    ∷ op 0x58 1 0 1  -- PC
    ∷ op 0x59 1 0 1  -- MSIZE
    ∷ op 0x5A 1 0 1  -- GAS
    ∷ op 0x5B 1 0 0  -- JUMPDEST
    ∷ op 0x5C 1 1 1  -- TLOAD
    ∷ op 0x5D 1 2 0  -- TSTORE
    ∷ op 0x5E 1 3 0  -- MCOPY
    ∷ op 0x5F 1 0 1  -- PUSH0
    ∷ op 0x60 2 0 1  -- PUSH1
    ∷ op 0x61 3 0 1  -- PUSH2
    ∷ op 0x62 4 0 1  -- PUSH3
    ∷ op 0x63 5 0 1  -- PUSH4
    ∷ op 0x64 6 0 1  -- PUSH5
    ∷ op 0x65 7 0 1  -- PUSH6
    ∷ op 0x66 8 0 1  -- PUSH7
    ∷ op 0x67 9 0 1  -- PUSH8
    ∷ op 0x68 10 0 1  -- PUSH9
    ∷ op 0x69 11 0 1  -- PUSH10
    ∷ op 0x6A 12 0 1  -- PUSH11
    ∷ op 0x6B 13 0 1  -- PUSH12
    ∷ op 0x6C 14 0 1  -- PUSH13
    ∷ op 0x6D 15 0 1  -- PUSH14
    ∷ op 0x6E 16 0 1  -- PUSH15
    ∷ op 0x6F 17 0 1  -- PUSH16
    ∷ op 0x70 18 0 1  -- PUSH17
    ∷ op 0x71 19 0 1  -- PUSH18
    ∷ op 0x72 20 0 1  -- PUSH19
    ∷ op 0x73 21 0 1  -- PUSH20
    ∷ op 0x74 22 0 1  -- PUSH21
    ∷ op 0x75 23 0 1  -- PUSH22
    ∷ op 0x76 24 0 1  -- PUSH23
    ∷ op 0x77 25 0 1  -- PUSH24
    ∷ op 0x78 26 0 1  -- PUSH25
    ∷ op 0x79 27 0 1  -- PUSH26
    ∷ op 0x7A 28 0 1  -- PUSH27
    ∷ op 0x7B 29 0 1  -- PUSH28
    ∷ op 0x7C 30 0 1  -- PUSH29
    ∷ op 0x7D 31 0 1  -- PUSH30
    ∷ op 0x7E 32 0 1  -- PUSH31
    ∷ op 0x7F 33 0 1  -- PUSH32
    ∷ op 0x80 1 1 2  -- DUP1
    ∷ op 0x81 1 2 3  -- DUP2
    ∷ op 0x82 1 3 4  -- DUP3
    ∷ op 0x83 1 4 5  -- DUP4
    ∷ op 0x84 1 5 6  -- DUP5
    ∷ op 0x85 1 6 7  -- DUP6
    ∷ op 0x86 1 7 8  -- DUP7
    ∷ op 0x87 1 8 9  -- DUP8
    ∷ op 0x88 1 9 10  -- DUP9
    ∷ op 0x89 1 10 11  -- DUP10
    ∷ op 0x8A 1 11 12  -- DUP11
    ∷ op 0x8B 1 12 13  -- DUP12
    ∷ op 0x8C 1 13 14  -- DUP13
    ∷ op 0x8D 1 14 15  -- DUP14
    ∷ op 0x8E 1 15 16  -- DUP15
    ∷ op 0x8F 1 16 17  -- DUP16
    ∷ op 0x90 1 2 2  -- SWAP1
    ∷ op 0x91 1 3 3  -- SWAP2
    ∷ op 0x92 1 4 4  -- SWAP3
    ∷ op 0x93 1 5 5  -- SWAP4
    ∷ op 0x94 1 6 6  -- SWAP5
    ∷ op 0x95 1 7 7  -- SWAP6
    ∷ op 0x96 1 8 8  -- SWAP7
    ∷ op 0x97 1 9 9  -- SWAP8
    ∷ op 0x98 1 10 10  -- SWAP9
    ∷ op 0x99 1 11 11  -- SWAP10
    ∷ op 0x9A 1 12 12  -- SWAP11
    ∷ op 0x9B 1 13 13  -- SWAP12
    ∷ op 0x9C 1 14 14  -- SWAP13
    ∷ op 0x9D 1 15 15  -- SWAP14
    ∷ op 0x9E 1 16 16  -- SWAP15
    ∷ op 0x9F 1 17 17  -- SWAP16
    ∷ op 0xA0 1 2 0  -- LOG0
    ∷ op 0xA1 1 3 0  -- LOG1
    ∷ op 0xA2 1 4 0  -- LOG2
    ∷ op 0xA3 1 5 0  -- LOG3
    ∷ op 0xA4 1 6 0  -- LOG4
    ∷ op 0xF0 1 3 1  -- CREATE
    ∷ op 0xF1 1 7 1  -- CALL
    ∷ op 0xF2 1 7 1  -- CALLCODE
    ∷ op 0xF3 1 2 0  -- RETURN
    ∷ op 0xF4 1 6 1  -- DELEGATECALL
    ∷ op 0xF5 1 4 1  -- CREATE2
    ∷ op 0xFA 1 6 1  -- STATICCALL
    ∷ op 0xFD 1 2 0  -- REVERT
    ∷ op 0xFE 1 0 0  -- INVALID
    ∷ op 0xFF 1 1 0  -- SELFDESTRUCT
    ∷ []

-- lines 20 to 34: `INFOS`, unknown where no line wrote; the last line that has the byte wrote last
abbrev pub infos : List Declared → Row → ℕ → Row
infos [] row b = row
infos (o ∷ os) row b = infos os (if (eqb b o.code) o.info row) b

-- lines 36 to 38; what is no byte has the row of an unknown one
unfoldable pub info : ℕ → Row
info b = infos declare_opcodes unknown b
