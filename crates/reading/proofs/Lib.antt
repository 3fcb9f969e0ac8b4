pub mod ThreeChannels
