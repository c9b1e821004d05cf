-- Laws of the converter, of an accepted conversion. To begin with: Image, what it leaves, part by part.
pub mod Ready  -- the target while messages are carried into it: what each step may rely on
pub mod Places  -- the messages carried place by place
pub mod Carry  -- one message carried: the bytes that it writes, and the others
pub mod Image  -- the image that it leaves, part by part
pub mod Into  -- the converter in lists and the call are one
